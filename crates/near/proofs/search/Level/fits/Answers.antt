-- `fits` meets its contract: the sum is the value of the slots from j on. Assumes nothing.
use mathlib.Core.Path.{◌≡◌, sym, ◌∙◌}
use Prim.Native.Nat.{suc}
use native.Mathlib.Numerals.{add-one}
use borrow.Author.Tests.{eqb-true, eqb-false}
use borrow.Author.Rules.{rules}
use Rattle.field.specs.Symbols.{symbol, symbols}
use Rattle.field.proofs.SymbolLaws.{byte-zero, zero-is, symbol-byte}
use Rattle.poly.specs.Polynomials.{value}
use Rattle.poly.proofs.BufferLaws.{horner-none, horner-more, horner-all}
use Rattle.near.specs.Work.{slice_of}
use Rattle.near.proofs.search.Level.fits.Goals as goal

pub loop-j-init : goal.loop-j-init
loop-j-init c =
    let s = c.args.self.now in
    (search rules, rw add-one (sym (horner-none s.shape.p c.args.c (suc s.shape.l) (slice_of s.shape s.curve.now s.i c.args.low))))

pub loop-j-preserved : goal.loop-j-preserved
loop-j-preserved c =
    let s = c.args.self.now in (
      search rules,
      c.plus_product-sum.ensures ∙ rw (c.symbol_at.ensures, c.loop-j.invariant.1) (horner-more
          s.shape.p c.args.c (suc s.shape.l) (slice_of s.shape s.curve.now s.i c.args.low) _ c.loop-j.j (search rules) (search rules)
          (symbol-byte s.shape.p _)),
    )

pub returns : goal.returns
returns c =
    let s = c.args.self.now in
    let z : c.loop-j.j ≡ 0 = search rules in
    let f = slice_of s.shape s.curve.now s.i c.args.low in
    let e : c.loop-j.sum.value ≡ (value (symbols s.shape.p).ring (symbol s.shape.p c.args.c) (suc s.shape.l) f).byte =
    c.loop-j.invariant.1 ∙ rw (z, horner-all s.shape.p c.args.c (suc s.shape.l) f) in
    record {
      holds = λ h. zero-is s.shape.p (sym e ∙ eqb-true c.loop-j.sum.value 0 (sym c.eq.ensures ∙ h));
      fails = λ h d. eqb-false c.loop-j.sum.value 0 (sym c.eq.ensures ∙ h) (e ∙ byte-zero s.shape.p d);
    }
