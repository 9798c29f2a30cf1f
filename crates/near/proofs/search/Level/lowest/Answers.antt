-- `lowest` meets its contract: no power of x below the one that is found stands. Assumes nothing.
use mathlib.Core.Path.{◌≡◌, ◌∙◌}
use mathlib.Core.Bool.{Bool, true, false}
use Prim.Native.Nat.{ℕ, suc}
use native.Mathlib.Numerals.{add-one}
use Rattle.std.proofs.Common.{rules, tests}
use Rattle.std.proofs.lemmas.Iterator.{first_from_Range}
use Rattle.field.specs.Symbols.{symbols}
use Rattle.near.specs.Search.{some?}
use Rattle.near.specs.Work.{slice_of}
use Rattle.near.proofs.search.LowestPower.{least-found}
use Rattle.near.proofs.search.Level.lowest.Goals as goal

pub returns : goal.returns
returns c =
    let s = c.args.self.now in
    let stands : ℕ → Bool = λ v. some? (symbols s.shape.p) (suc s.shape.l) (slice_of s.shape s.curve.now s.i v) in
    c.unwrap_or.ensures ∙ rw add-one (least-found (suc s.shape.width) stands c.find.result
    (rw add-one at (first_from_Range _ _ _ c.find.result (λ v. stands v ≡ true) (λ v. stands v ≡ false) c.find.ensures.ran
    (λ v q k. search (rules, tests)) (λ v q k. search (rules, tests)))))
