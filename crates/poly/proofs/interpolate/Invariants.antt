use lib.ListN.{length}
use Rattle.poly.specs.Buffers.{Interpolated}
use Rattle.poly.proofs.interpolate.Given as goal

abbrev pub invariant-loop-a : goal.invariant-loop-a
invariant-loop-a l = Interpolated l.p l.points l.word (length l.yielded) l.work
