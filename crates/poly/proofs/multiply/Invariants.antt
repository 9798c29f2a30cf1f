use Prim.Native.Nat.{◌≤◌}
use Rattle.poly.proofs.Products.{Multiplied}
use Rattle.poly.proofs.multiply.Given as goal

abbrev pub invariant-loop-i : goal.invariant-loop-i
invariant-loop-i l = (l.i ≤ l.len) × Multiplied l.p l.f l.at l.len l.i l.initial.xs l.xs
