use Prim.Native.Nat.{◌+◌, ◌-◌, ◌*◌}
use Rattle.rows.specs.Work.{ZeroBetween}
use Rattle.rows.proofs.leading.size_at_most.Given as goal

abbrev pub invariant-loop-i : goal.invariant-loop-i
invariant-loop-i l = ZeroBetween l.rows (l.at + (l.size - 8 * l.i)) (l.at + l.size)
