use Prim.Native.Nat.{◌+◌}
use Rattle.rows.specs.Work.{ZeroBetween}
use Rattle.rows.proofs.sound.zero_between.Given as goal

abbrev pub invariant-loop-x : goal.invariant-loop-x
invariant-loop-x l = ZeroBetween l.rows l.a (l.a + l.x-index)
