-- Turns one after the other, and what is promised of them, over any field, when they begin at fresh rows.
--   Preserved u W l rows o   the outcome o of work on these rows is again as a turn leaves rows, and spans the same curves
--   allowed list        the allowances of a list, added up
--   after o p           what two turns leave, o and then p: the updates are added up, and the number is 0 only if both are
--   Run u l list rows r o   turns with the allowances of the list, each on the rows and with the current row that the last one left, end in o
--   Fresh u W c i Q     Q may be row i at the start: height i, at y^i a polynomial of some degree d, weight at most u i + d + c, and within W
--   Promised ..         a run that began at the rows `start` goes well: each number is 0, the span stays, the rows stay as a turn leaves
--                       them, of which each before the current one leads at its own power of y; the updates are at most
--                       1 b_1 + .. + l b_l, and the work is finished once there was a turn and the allowances add up to that
use mathlib.Core.Path.{◌≡◌}
use mathlib.Core.Logic.{◌≢◌}
use mathlib.Core.List.{List, [], ◌∷◌}
use Prim.Native.Nat.{ℕ, zero, suc, ◌+◌, ◌*◌, ◌≤◌, ◌<◌}
use lib.ListN.{length}
use Rattle.field.specs.Field.{Ring, Field}
use Rattle.poly.specs.Polynomials.{Below}
use Rattle.curves.specs.Curves.{Curve, Height, Under}
use Rattle.curves.specs.Start.{total}
use Rattle.curves.specs.Turns.{Outcome, stops, Turn}
use Rattle.curves.specs.Entry.{Sound}
use Rattle.curves.proofs.Spans.{Same}

unfoldable pub allowed : List ℕ → ℕ
allowed [] = 0
allowed (a ∷ list) = a + allowed list

module _ (R : Ring) where
  pub record Fresh (u W c i : ℕ) (Q : Curve R) : Type 0 where
    pub height : Height R (suc i) Q
    pub degree : ℕ
    pub top : Q i degree ≢ R.𝟘
    pub past : Below R (suc degree) (Q i)
    pub light : Under R u (suc (u * i + degree + c)) zero Q
    pub within : Under R u (suc W) zero Q

module _ (F : Field) where
  pub record Preserved (u W l : ℕ) (rows : ℕ → Curve F.ring) (o : Outcome F) : Type 0 where
    pub inside : o.row ≤ suc l
    pub sound : Sound F.ring u W l o.row o.rows
    pub same : Same F.ring (suc l) rows o.rows

  abbrev pub after : Outcome F → Outcome F → Outcome F
  after o p = record { number = o.number + p.number; rows = p.rows; row = p.row; updates = o.updates + p.updates }

  pub data Run (u l : ℕ) : List ℕ → (ℕ → Curve F.ring) → ℕ → Outcome F → Type 0 where
    none : {rows : ℕ → Curve F.ring} {r : ℕ} → Run u l [] rows r (stops F 0 rows r)
    turn : {a : ℕ} {list : List ℕ} {rows : ℕ → Curve F.ring} {r : ℕ} {o p : Outcome F} → Turn F u l a rows r o
        → Run u l list o.rows o.row p → Run u l (a ∷ list) rows r (after o p)

  pub record Promised (u W l : ℕ) (b : ℕ → ℕ) (start : ℕ → Curve F.ring) (list : List ℕ) (o : Outcome F) : Type 0 where
    pub number : o.number ≡ 0
    pub kept : Preserved u W l start o
    pub count : o.updates ≤ total l (λ r. r * b r)
    pub finished : 0 < length list → total l (λ r. r * b r) ≤ allowed list → o.row ≡ suc l
