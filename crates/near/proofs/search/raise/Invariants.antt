use Prim.Native.Nat.{◌≤◌}
use Rattle.near.specs.Work.{Lifted}
use Rattle.near.proofs.search.raise.Given as goal

abbrev pub invariant-loop-q : goal.invariant-loop-q
invariant-loop-q l = (l.j ≤ l.q) × (l.q ≤ l.shape.l) × Lifted l.shape l.i l.c.value l.j l.q l.initial.curve l.curve
