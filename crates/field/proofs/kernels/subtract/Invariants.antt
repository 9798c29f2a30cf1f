use mathlib.Core.Path.{◌≡◌}
use Rattle.field.specs.Kernels.{subtracted}
use Rattle.field.proofs.kernels.subtract.Given as goal

abbrev pub invariant-loop-i : goal.invariant-loop-i
invariant-loop-i g l = let f = g.F.Factor in l.rows ≡ subtracted (f.size l.factor) (f.factor l.factor) l.to l.from l.i l.initial.rows
