use Prim.Native.Nat.{suc, ◌≤◌}
use Rattle.rows.proofs.fill.FilledRows.{RowsFilled, to_fill}
use Rattle.rows.proofs.fill.fill.Given as goal

abbrev pub invariant-loop-i : goal.invariant-loop-i
invariant-loop-i l = (l.i ≤ suc l.shape.l) × RowsFilled l.shape (to_fill l.shape l.m l.h l.e) l.i l.initial.rows l.rows
