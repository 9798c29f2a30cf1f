use Prim.Native.Nat.{◌≤◌}
use lib.ListN.{length}
use Rattle.poly.proofs.Encoding.{Accepted, Written}
use Rattle.poly.proofs.encode.Given as goal

abbrev pub invariant-loop-s : goal.invariant-loop-s
invariant-loop-s l = (l.s ≤ length l.points) × Accepted l.p l.points l.message l.initial.word
    × Written l.p l.points l.message l.initial.word l.s l.word
