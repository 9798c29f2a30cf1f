use Rattle.std.proofs.Common.{◌<◌}
use Rattle.replay.proofs.printing.sum.Given as goal

abbrev pub invariant-loop-b : goal.invariant-loop-b
invariant-loop-b l = l.s < 4294967291
