use mathlib.Core.Path.{◌≡◌}
use Prim.Native.Nat.{suc, ◌≤◌}
use Rattle.poly.proofs.BufferLaws.{horner}
use Rattle.near.specs.Work.{slice_of}
use Rattle.near.proofs.search.Level.fits.Given as goal

abbrev pub invariant-loop-j : goal.invariant-loop-j
invariant-loop-j l = (l.j ≤ suc l.self.shape.l) × (l.sum.value ≡ (horner l.self.shape.p l.c (suc l.self.shape.l)
    (slice_of l.self.shape l.self.curve.now l.self.i l.low) l.j).byte)
