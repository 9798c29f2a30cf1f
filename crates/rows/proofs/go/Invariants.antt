use mathlib.Core.Path.{◌≡◌}
use Prim.Native.Nat.{suc, ◌+◌, ◌-◌}
use Rattle.rows.specs.Jobs.{shape_of}
use Rattle.rows.proofs.Going.{Going}
use Rattle.rows.proofs.go.Given as goal

abbrev pub invariant-loop-r : goal.invariant-loop-r
invariant-loop-r l = (l.shape ≡ shape_of l.note) × (l.l ≡ l.shape.l) × Going l.shape l.note.r l.allowance l.initial.rows l.rows l.r l.left

abbrev pub decreases-loop-r : goal.decreases-loop-r
decreases-loop-r l = suc l.l - l.r + l.left
