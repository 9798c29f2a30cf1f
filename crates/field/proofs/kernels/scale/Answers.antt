-- `field::kernels::scale` meets its contract. The loop's invariant: the first symbols of the region are done.
use mathlib.Core.Path.{◌≡◌}
use native.Mathlib.Omega.{arith}
use Rattle.field.proofs.KernelLaws.{part-zero, part-length, part-below, part-more, part-back}
use Rattle.field.proofs.kernels.scale.Goals as goal

pub loop-x-init : goal.loop-x-init
loop-x-init g c = part-zero c.requires

pub times-requires : goal.times-requires
times-requires g c =
    let l = c.loop-x in
    record { size = c.requires.size; left = c.requires.factor; right = rw l.invariant (part-below c.requires l.x-index c.loop-x-test.true) }

pub loop-x-preserved : goal.loop-x-preserved
loop-x-preserved g c =
    let l = c.loop-x in
    rw l.invariant (part-more c.requires l.x-index c.loop-x-test.true (rw l.invariant at c.times.ensures))

pub returns : goal.returns
returns g c =
    let l = c.loop-x in
    let end : l.x-index ≡ c.args.len = omega (arith, c.loop-x-test.false, l.auto.x-index-end, part-length c.requires) in
    rw (l.invariant, end) (part-back c.requires)
