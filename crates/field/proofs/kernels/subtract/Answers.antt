-- `field::kernels::subtract` meets its contract. The loop's invariant: the first i symbols of the region are done.
use mathlib.Core.Path.{sym}
use Rattle.field.proofs.KernelLaws.{subtracted-zero, target-below, source-below, subtracted-more}
use Rattle.field.proofs.kernels.subtract.Goals as goal

pub loop-i-init : goal.loop-i-init
loop-i-init g c = sym (subtracted-zero _ _ _ _ _)

pub take_off-requires-clause-operand : goal.take_off-requires-clause-operand
take_off-requires-clause-operand g c =
    let l = c.loop-i in
    record { size = c.requires.size; below = target-below c.requires l.i c.loop-i-test.true l.invariant }

pub take_off-requires-clause-operands : goal.take_off-requires-clause-operands
take_off-requires-clause-operands g c =
    let l = c.loop-i in
    record { size = c.requires.size; left = c.requires.factor; right = source-below c.requires l.i c.loop-i-test.true l.invariant }

pub loop-i-preserved : goal.loop-i-preserved
loop-i-preserved g c = let l = c.loop-i in subtracted-more c.requires l.i c.loop-i-test.true l.invariant c.take_off.ensures
