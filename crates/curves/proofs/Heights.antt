-- Curves as sequences in y: the zero curve's coefficients, height as a bound on the powers of y, and that a curve has one height.
use mathlib.Core.Path.{◌≡◌, ap, ◌∙◌, fun_ext}
use Prim.Native.Nat.{ℕ, ◌<◌}
use native.Mathlib.Decide.{dec_lt}
use native.Mathlib.Omega.{arith}
use Rattle.field.specs.Field.{Ring}
use Rattle.poly.specs.Polynomials.{Seq, Series, zero_s, Below}
use Rattle.poly.proofs.Series.{zero_s-at}
use Rattle.curves.specs.Curves.{Curve, Height, HasHeight}

module _ (R : Ring) where
  pub zero-at : (j i : ℕ) → zero_s (Series R) j i ≡ R.𝟘
  zero-at j i = ap (λ (f : Seq R). f i) (zero_s-at (Series R) j) ∙ zero_s-at R i

  pub height-below : {N : ℕ} {Q : Curve R} → Height R N Q → Below (Series R) N Q
  unfolding zero_s
  height-below h j k = fun_ext (λ i. h j i k)

  pub below-height : {N : ℕ} {Q : Curve R} → Below (Series R) N Q → Height R N Q
  below-height h j i k = ap (λ (f : Seq R). f i) (h j k) ∙ zero_s-at R i

  pub height_unique : {Q : Curve R} {j k : ℕ} → HasHeight R Q j → HasHeight R Q k → j ≡ k
  height_unique {Q} {j} {k} a b = go (dec_lt j k) (dec_lt k j)
    where
      go : Dec (j < k) → Dec (k < j) → j ≡ k
      go (yes l) d = absurd (b.some.1 (a.above k b.some.0 l))
      go (no l) (yes d) = absurd (a.some.1 (b.above j a.some.0 d))
      go (no l) (no d) = omega arith
