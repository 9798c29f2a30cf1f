-- `field::kernels::convolve` meets its contract: the sum stands for that of the first i products.
use mathlib.Core.Path.{refl, ap, ◌∙◌}
use native.Mathlib.Omega.{arith}
use Rattle.field.specs.Symbols.{symbol}
use Rattle.field.proofs.Convolutions.{convolution-none, convolution-more}
use Rattle.field.proofs.kernels.convolve.Goals as goal

pub loop-i-init : goal.loop-i-init
loop-i-init g c =
    let s = c.args in
    let p = g.S.RunningSum.size s.empty in
    (refl, omega (arith, c.requires.none), ap (symbol p) c.requires.zero ∙ convolution-none p s.top s.f.now s.xs.now)

pub loop-i-preserved : goal.loop-i-preserved
loop-i-preserved g c =
    let s = c.args in
    let v = c.loop-i.invariant in
    let added = c.with_product-sum.ensures in (
      added.size ∙ v.0,
      omega (arith, added.terms, v.1),
      convolution-more _ s.top s.f.now s.xs.now c.loop-i.i _ _ v.2 (rw v.0 at added.number),
    )
