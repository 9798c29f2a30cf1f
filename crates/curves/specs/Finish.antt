-- What a finish hands over: the row with the smallest leading term, made monic. Rules: section 11.
--   Lightest u l rows i w   of the rows 0 to l, each leading at its own power of y, row i leads with the smallest term, of weight w
--   monic s d Q             Q, which leads at x^d y^s, times the inverse of its leading coefficient
use Rattle.std.specs.Prelude.{ℕ, ◌≤◌}
use Rattle.field.specs.Field.{Ring, Field}
use Rattle.poly.specs.Polynomials.{scale_s}
use Rattle.curves.specs.Curves.{AtMost, Curve, Lead}

module _ (R : Ring) where
  pub record Lightest (u l : ℕ) (rows : ℕ → Curve R) (i w : ℕ) : Type 0 where
    pub inside : i ≤ l
    pub lead : Lead R u w i (rows i)
    pub least : (q v : ℕ) → q ≤ l → Lead R u v q (rows q) → AtMost w i v q

module _ (F : Field) where
  abbrev pub monic : ℕ → ℕ → Curve F.ring → Curve F.ring
  monic s d Q = λ j. scale_s F.ring (F.inv (Q s d)) (Q j)
