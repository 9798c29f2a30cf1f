use mathlib.Core.Path.{◌≡◌}
use Prim.Native.Nat.{ℕ, ◌+◌, ◌≤◌}
use lib.ListN.{get_or}
use Rattle.rows.proofs.leading.degree_to.Given as goal

abbrev pub invariant-loop-degree : goal.invariant-loop-degree
invariant-loop-degree l = (i : ℕ) → l.degree ≤ i → i ≤ l.top → get_or l.rows (l.at + i) 0 ≡ 0
