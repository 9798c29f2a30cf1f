-- The starting rows as they are filled: what stands at y^j in (y - h) Q, a row up to m as e^(m-i) times y - h again and again, and a row
-- above m as y times the one before it.
use mathlib.Core.Path.{◌≡◌, refl, sym, ◌∙◌}
use mathlib.Core.List.{[], ◌∷◌}
use Prim.Native.Nat.{ℕ, zero, suc, ◌-◌, ◌≤◌, min}
use native.Mathlib.Omega.{arith}
use Rattle.field.specs.Field.{Ring, RingLaws, pow}
use Rattle.field.proofs.RingLaws.{add-zero, mul-left_comm, mul-one, mul-zero, one-mul, neg-mul, neg-zero}
use Rattle.field.proofs.RingTactic.{ring}
use Rattle.field.proofs.Sums.{pow-zero, pow-suc}
use Rattle.poly.specs.Polynomials.{Seq, zero_s, neg_s, mul_s, Series, cons_s, const_s, x_s, lin}
use Rattle.poly.proofs.Series.{series, readings, add_s-at, neg_s-at, zero_s-at, mul_s-zero, mul_s-suc}
use Rattle.poly.proofs.Constants.{const_s-suc, mul-x, x_plus, x_plus-zero, x_plus-tail, x_plus-neg}
use Rattle.poly.proofs.Products.{product-low}
use Rattle.curves.specs.Curves.{Curve, Height}
use Rattle.curves.specs.Start.{start_row}

module _ (R : Ring) where
  -- (y - h)^q e^n
  unfoldable pub low_row : Seq R → Seq R → ℕ → ℕ → Curve R
  low_row e h n zero = const_s (Series R) (pow (Series R) e n)
  low_row e h n (suc q) = mul_s (Series R) (lin (Series R) h) (low_row e h n q)

  pub low_row-zero : (e h : Seq R) (n : ℕ) → low_row e h n zero ≡ const_s (Series R) (pow (Series R) e n)
  unfolding low_row
  low_row-zero e h n = refl

  pub low_row-suc : (e h : Seq R) (n q : ℕ) → low_row e h n (suc q) ≡ mul_s (Series R) (lin (Series R) h) (low_row e h n q)
  unfolding low_row
  low_row-suc e h n q = refl

module _ {R : Ring} (L : RingLaws R) where
  abbrev S : Ring
  S = Series R

  abbrev C : Ring
  C = Series S

  open Series (Series R) use {times as ◌⊗◌}

  infixl 70 ◌⊗◌
  -- (y - h) Q, slot by slot
  pub raised-zero : (h : Seq R) (Q : Curve R) (e : ℕ) → (lin S h ⊗ Q) zero e ≡ R.neg (mul_s R h (Q zero) e)
  raised-zero h Q e =
      rw (← x_plus-neg S h, mul_s-zero S (x_plus S (neg_s R h)) Q, x_plus-zero S (neg_s R h), neg-mul (series L) h (Q zero)) (neg_s-at R _ e)

  pub raised-suc : (h : Seq R) (Q : Curve R) (j e : ℕ) → (lin S h ⊗ Q) (suc j) e ≡ R.plus (R.neg (mul_s R h (Q (suc j)) e)) (Q j e)
  raised-suc h Q j e =
      rw (
        ← x_plus-neg S h,
        mul_s-suc S (x_plus S (neg_s R h)) Q j,
        x_plus-zero S (neg_s R h),
        x_plus-tail S (neg_s R h),
        one-mul (series (series L)) Q,
        neg-mul (series L) h (Q (suc j)),
        add_s-at R _ (Q j) e,
      )
      (rw (neg_s-at R (mul_s R h (Q (suc j))) e))

  -- a coefficient of (y - h) Q depends on no higher ones
  pub raised-low : (h : Seq R) (Q P : Curve R) (j e : ℕ) → ((i k : ℕ) → i ≤ j → k ≤ e → Q i k ≡ P i k) → (lin S h ⊗ Q) j e ≡ (lin S h ⊗ P) j e
  raised-low h Q P zero e a =
      rw (raised-zero h Q e, raised-zero h P e, product-low R h (Q zero) (P zero) e (λ k l. a zero k (omega arith) l))
  raised-low h Q P (suc j) e a =
      rw (
        raised-suc h Q j e,
        raised-suc h P j e,
        product-low R h (Q (suc j)) (P (suc j)) e (λ k l. a (suc j) k (omega arith) l),
        a j e (omega arith) (omega arith),
      )

  pub raised-height : (h : Seq R) (Q : Curve R) (n : ℕ) → Height R n Q → Height R (suc n) (lin S h ⊗ Q)
  raised-height h Q n a zero e k = absurd (omega arith)
  raised-height h Q n a (suc j) e k =
      raised-suc h Q j e
      ∙ rw (
        product-low R h (Q (suc j)) (zero_s R) e (λ i l. a (suc j) i (omega arith) ∙ sym (zero_s-at R i)),
        mul-zero (series L) h,
        zero_s-at R e,
        a j e (omega arith),
        neg-zero,
      )
      (add-zero L _)

  module _ (e h : Seq R) where
    pub low_row-height : (n q : ℕ) → Height R (suc q) (low_row R e h n q)
    low_row-height n zero zero i k = absurd (omega arith)
    low_row-height n zero (suc j) i k = rw (low_row-zero R e h n, const_s-suc S (pow S e n) j) (zero_s-at R i)
    low_row-height n (suc q) j i k = rw (low_row-suc R e h n q) (raised-height h (low_row R e h n q) (suc q) (low_row-height n q) j i k)

    low_row-power : (n q : ℕ) → const_s S (pow S e n) ⊗ pow C (lin S h) q ≡ low_row R e h n q
    low_row-power n zero = rw (low_row-zero R e h n, pow-zero C (lin S h)) (mul-one (series (series L)) _)
    low_row-power n (suc q) =
        rw (low_row-suc R e h n q, ← low_row-power n q, pow-suc C (lin S h) q)
        (mul-left_comm (series (series L)) (const_s S (pow S e n)) (lin S h) (pow C (lin S h) q))

    module _ (m i : ℕ) where
      pub start_row-low : i ≤ m → start_row R m e h i ≡ low_row R e h (m - i) i
      unfolding start_row
      start_row-low k =
          let a : min i m ≡ i = omega arith in
          let b : i - m ≡ 0 = omega arith in
          rw (a, b, pow-zero C (x_s S), low_row-power (m - i) i) (mul-one (series (series L)) _)

      -- y times the row before it
      pub start_row-high : m ≤ i → start_row R m e h (suc i) ≡ cons_s S (zero_s R) (start_row R m e h i)
      unfolding start_row
      start_row-high k =
          let a : min (suc i) m ≡ min i m = omega arith in
          let b : suc i - m ≡ suc (i - m) = omega arith in
          let c : m - suc i ≡ m - i = omega arith in
          rw (a, b, c, pow-suc C (x_s S) (i - m), ← mul-x (series L) (start_row R m e h i))
          (moved (const_s S (pow S e (m - i))) (pow C (lin S h) (min i m)) (x_s S) (pow C (x_s S) (i - m)))
        where
          moved : (a b c d : Curve R) → a ⊗ b ⊗ (c ⊗ d) ≡ c ⊗ (a ⊗ b ⊗ d)
          moved a b c d = ring (series (series L)) (a ∷ b ∷ c ∷ d ∷ []) (search readings depth 25) tt
