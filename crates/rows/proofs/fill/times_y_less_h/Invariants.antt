use Prim.Native.Nat.{◌≤◌}
use Rattle.rows.proofs.fill.Slots.{Raising}
use Rattle.rows.proofs.fill.times_y_less_h.Given as goal

abbrev pub invariant-loop-j : goal.invariant-loop-j
invariant-loop-j l = (l.j ≤ l.slots) × Raising l.p l.h l.base l.slot l.slots l.j l.initial.rows l.rows
