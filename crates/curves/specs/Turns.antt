-- The rule of a turn, step for step, on rows that are curves. Rules: section 9.
--   cross a P c b Q     x^a P - c x^b Q
--   Due u l r rows w s v   an update is due: row r leads at (w, s), with s other than r, and row s at (v, s)
--   ratio s a b P Q     the coefficient of x^a y^s in P over that of x^b y^s in Q
--   update r s a b rows   the rows after the update, where row r leads at x^a y^s and row s at x^b y^s. With d = a - b and c the ratio,
--                       row r becomes row r - c x^d row s; or, where d is negative, x^(-d) row r - c row s, and row s the old row r
--   updated due         the rows after the update that is due
--   Outcome             what a turn leaves: its number, the rows, the current row, and the updates made
--   stops number rows r     it leaves these rows, with no update; counted o  one update more than o
--   Turn u l a rows r o a turn with the allowance a, on these rows with r the current one, ends in o
use Rattle.std.specs.Prelude.{◌≢◌, ℕ, zero, suc, ◌-◌, ◌≤◌, ◌<◌}
use Rattle.std.proofs.Math.Decide.{dec_le}
use Rattle.field.specs.Field.{Ring, Field}
use Rattle.field.specs.Choices.{choose, put}
use Rattle.poly.specs.Polynomials.{Series, add_s, mono}
use Rattle.curves.specs.Curves.{Curve, Zero, Lead, x_times}

module _ (R : Ring) where
  unfoldable pub cross : ℕ → Curve R → R.Car → ℕ → Curve R → Curve R
  cross a P c b Q = add_s (Series R) (x_times R (mono R R.𝟙 a) P) (x_times R (mono R (R.neg c) b) Q)

  pub record Due (u l r : ℕ) (rows : ℕ → Curve R) (w s v : ℕ) : Type 0 where
    pub inside : r ≤ l
    pub lead : Lead R u w s (rows r)
    pub other : s ≢ r
    pub below : Lead R u v s (rows s)

module _ (F : Field) where
  unfoldable pub ratio : ℕ → ℕ → ℕ → Curve F.ring → Curve F.ring → F.ring.Car
  ratio s a b P Q = F.ring.times (P s a) (F.inv (Q s b))

  unfoldable pub update : ℕ → ℕ → ℕ → ℕ → (ℕ → Curve F.ring) → ℕ → Curve F.ring
  update r s a b rows =
      put r (cross F.ring (b - a) (rows r) (ratio s a b (rows r) (rows s)) (a - b) (rows s)) (put s (choose (dec_le b a) (rows s) (rows r)) rows)

  abbrev pub updated : {u l r : ℕ} {rows : ℕ → Curve F.ring} {w s v : ℕ} → Due F.ring u l r rows w s v → ℕ → Curve F.ring
  updated {r = r} {rows} {s = s} due = update r s due.lead.degree due.below.degree rows

  pub record Outcome : Type 0 where
    pub number : ℕ
    pub rows : ℕ → Curve F.ring
    pub row : ℕ
    pub updates : ℕ

  abbrev pub stops : ℕ → (ℕ → Curve F.ring) → ℕ → Outcome
  stops number rows r = record { number = number; rows = rows; row = r; updates = 0 }

  abbrev pub counted : Outcome → Outcome
  counted o = record { number = o.number; rows = o.rows; row = o.row; updates = suc o.updates }

  -- rows 0 to l; 11 is the number of the update that would make row r zero and is not made
  pub data Turn (u l : ℕ) : ℕ → (ℕ → Curve F.ring) → ℕ → Outcome → Type 0 where
    finished : {a : ℕ} {rows : ℕ → Curve F.ring} {r : ℕ} → l < r → Turn u l a rows r (stops 0 rows r)
    rises : {a : ℕ} {rows : ℕ → Curve F.ring} {r : ℕ} {o : Outcome} (w : ℕ) → r ≤ l → Lead F.ring u w r (rows r) → Turn u l a rows (suc r) o
        → Turn u l a rows r o
    pauses : {rows : ℕ → Curve F.ring} {r : ℕ} (w s : ℕ) → r ≤ l → Lead F.ring u w s (rows r) → s ≢ r → Turn u l zero rows r (stops 0 rows r)
    updates : {a : ℕ} {rows : ℕ → Curve F.ring} {r : ℕ} {o : Outcome} (w s v : ℕ) (due : Due F.ring u l r rows w s v)
        → (Zero F.ring (updated due r) → ⊥) → Turn u l a (updated due) r o → Turn u l (suc a) rows r (counted o)
    halts : {a : ℕ} {rows : ℕ → Curve F.ring} {r : ℕ} (w s v : ℕ) (due : Due F.ring u l r rows w s v)
        → Zero F.ring (updated due r) → Turn u l (suc a) rows r (stops 11 rows r)
