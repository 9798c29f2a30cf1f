-- Turns one after the other are one turn with all their allowances: so how the work was cut does not matter.
use mathlib.Core.Path.{◌≡◌, ap₂}
use Prim.Native.Nat.{ℕ, suc, ◌+◌, ◌≤◌}
use native.Mathlib.Nat.{zero-add, suc-add}
use native.Mathlib.Omega.{arith}
use Rattle.field.specs.Field.{Field}
use Rattle.curves.specs.Curves.{Curve}
use Rattle.curves.specs.Turns.{Outcome, stops, Turn, finished, rises, pauses, updates, halts}
use Rattle.curves.proofs.Promises.{after}

module _ {F : Field} where
  -- nothing was done before
  after-nothing : (rows : ℕ → Curve F.ring) (r : ℕ) (o : Outcome F) → after F (stops F 0 rows r) o ≡ o
  after-nothing rows r o = ap₂ (λ (m n : ℕ). record { number = m; rows = o.rows; row = o.row; updates = n }) (omega arith) (omega arith)

  -- after the end a turn does nothing, whatever its allowance is
  ended : {u l a c r : ℕ} {rows : ℕ → Curve F.ring} {o : Outcome F} → suc l ≤ r → Turn F u l c rows r o → Turn F u l a rows r o
  ended h (finished k) = finished k
  ended h (rises w k x t) = absurd (omega arith)
  ended h (pauses w s k x n) = absurd (omega arith)
  ended h (updates w s v d n t) = let k = d.inside in absurd (omega arith)
  ended h (halts w s v d z) = let k = d.inside in absurd (omega arith)

  -- a turn with a, answered with 0, and then one with c are one with a + c
  pub turn-then : {u l a c r : ℕ} {rows : ℕ → Curve F.ring} {o p : Outcome F} → Turn F u l a rows r o → o.number ≡ 0
      → Turn F u l c o.rows o.row p → Turn F u l (a + c) rows r (after F o p)
  turn-then {p = p} (finished {rows = rows} {r = r} h) z q = rw (after-nothing rows r p) (ended h q)
  turn-then (rises w h x t) z q = rises w h x (turn-then t z q)
  turn-then {c = c} {p = p} (pauses {rows = rows} {r = r} w s h x n) z q = rw (after-nothing rows r p, zero-add c) q
  turn-then {c = c} {p = p} (updates {a = a} {o = o} w s v d n t) z q =
      rw (suc-add a c, suc-add o.updates p.updates) (updates w s v d n (turn-then t z q))
  turn-then (halts w s v d n) z q = absurd (omega arith)
