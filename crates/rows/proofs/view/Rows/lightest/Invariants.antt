use Prim.Native.Nat.{suc, ◌-◌, ◌≤◌}
use Rattle.curves.specs.Finish.{Lightest}
use Rattle.rows.specs.View.{ring_of, row_of}
use Rattle.rows.proofs.view.Rows.lightest.Given as goal

abbrev pub invariant-loop-row : goal.invariant-loop-row
invariant-loop-row l =
    (l.row ≤ suc l.self.shape.l)
    × Lightest (ring_of l.self) l.self.shape.u (l.row - 1) (row_of l.self) l.lightest.row l.lightest.weight
