-- Rows as a turn leaves them: what is asked of them at entry, and what number 11 denies. Rules: section 14.
--   Sound u W l r rows   of the rows 0 to l, with r the current one: no coefficient of weight above W, no row zero, row i up to r of
--                        height at most r, row i above r of height at most i, and row i below r leading at y^i
use Rattle.std.specs.Prelude.{ℕ, zero, suc, ◌≤◌, ◌<◌}
use Rattle.field.specs.Field.{Ring}
use Rattle.curves.specs.Curves.{Curve, Height, Zero, Under, LeadsAt}

module _ (R : Ring) where
  pub record Sound (u W l r : ℕ) (rows : ℕ → Curve R) : Type 0 where
    pub light : (i : ℕ) → i ≤ l → Under R u (suc W) zero (rows i)
    pub nonzero : (i : ℕ) → i ≤ l → Zero R (rows i) → ⊥
    pub low : (i : ℕ) → i ≤ l → i ≤ r → Height R (suc r) (rows i)
    pub high : (i : ℕ) → i ≤ l → r < i → Height R (suc i) (rows i)
    pub own : (i : ℕ) → i ≤ l → i < r → LeadsAt R u i (rows i)
