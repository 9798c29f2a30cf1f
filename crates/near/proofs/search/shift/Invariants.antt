use Rattle.near.proofs.search.Shifting.{Shifting}
use Rattle.near.proofs.search.shift.Given as goal

abbrev pub invariant-loop-j : goal.invariant-loop-j
invariant-loop-j l = Shifting l.shape l.i l.c.value l.j l.initial.curve l.curve
