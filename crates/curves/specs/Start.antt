-- The rows that a start fills, and the formula that bounds the updates. Rules: sections 8 and 10.
--   start_row m e h i   e^(m-i) (y-h)^i for i up to m, y^(i-m) (y-h)^m above (corollary 14)
--   total n f           f 1 + .. + f n
--   formula n k m l     (n-k) times the sum of r r for r = 1 to m, plus (n-k) m times the sum of r for r = m+1 to l
use Rattle.std.specs.Prelude.{ℕ, zero, suc, ◌+◌, ◌-◌, ◌*◌, min}
use Rattle.field.specs.Field.{Ring, pow}
use Rattle.poly.specs.Polynomials.{Seq, Series, const_s, x_s, lin}
use Rattle.curves.specs.Curves.{Curve}

module _ (R : Ring) where
  open Series (Series R) use {times as ◌⊗◌}

  infixl 70 ◌⊗◌
  unfoldable pub start_row : ℕ → Seq R → Seq R → ℕ → Curve R
  start_row m e h i =
      const_s (Series R) (pow (Series R) e (m - i)) ⊗ pow (Series (Series R)) (lin (Series R) h) (min i m)
      ⊗ pow (Series (Series R)) (x_s (Series R)) (i - m)

unfoldable pub total : ℕ → (ℕ → ℕ) → ℕ
total zero f = 0
total (suc n) f = total n f + f (suc n)

abbrev pub formula : ℕ → ℕ → ℕ → ℕ → ℕ
formula n k m l = (n - k) * total m (λ r. r * r) + (n - k) * m * total (l - m) (λ r. m + r)
