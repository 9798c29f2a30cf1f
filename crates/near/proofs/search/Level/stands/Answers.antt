-- `stands` meets its contract. Assumes nothing.
use mathlib.Core.Path.{◌≡◌}
use Prim.Native.Nat.{suc, ◌+◌}
use native.Mathlib.Omega.{arith}
use Rattle.std.proofs.Common.{rules, tests}
use Rattle.std.proofs.lemmas.Iterator.{cases_from_any, YieldsList-from_range}
use Rattle.near.specs.Work.{slice_of}
use Rattle.near.proofs.search.LowestPower.{some-any}
use Rattle.near.proofs.search.Level.stands.Goals as goal

pub returns : goal.returns
returns c =
    let s = c.args.self.now in
    let f = slice_of s.shape s.curve.now s.i c.args.v in
    some-any s.shape.p (suc s.shape.l) f c.any.result
    (cases_from_any _ _ c.any.result (λ j. (f j).byte ≡ 0 → ⊥) (λ j. (f j).byte ≡ 0) c.any.ensures.ran
    (YieldsList-from_range 0 (s.shape.l + 1) (suc s.shape.l) (cc) (omega arith))
    (λ j q k. search (rules, tests)) (λ j q k. search (rules, tests)))
