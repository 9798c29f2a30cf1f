-- What a combination of the rows E_i (y - h)^min(i,m) y^(i-m) is along h, where every E_i from m on is 1: it has the coefficients
-- E_j q_j below y^m, and any coefficients from there on. So no curves are multiplied where rows are combined.
use mathlib.Core.Path.{◌≡◌, sym, ap, ap₂, ◌∙◌, fun_ext}
use mathlib.Core.List.{[], ◌∷◌}
use Prim.Native.Nat.{ℕ, ◌+◌, ◌-◌, ◌<◌, min}
use native.Mathlib.Omega.{arith}
use Rattle.field.specs.Field.{Ring, RingLaws, pow, sum}
use Rattle.field.proofs.RingLaws.{neg-add_self}
use Rattle.field.proofs.RingTactic.{ring}
use Rattle.field.proofs.Sums.{pow-zero, sum_cong, sum_split, sum-mul}
use Rattle.poly.specs.Polynomials.{Seq, Series, neg_s, mul_s, one_s, const_s, x_s, lin, Below}
use Rattle.poly.proofs.Series.{series, readings}
use Rattle.poly.proofs.Constants.{x_plus, x_plus-neg, mul_const, const-mul, const-one}
use Rattle.poly.proofs.Parts.{drop, join, join-low, join-high, below-join}
use Rattle.poly.proofs.Shift.{shift, shift-shift, shift_split, below-shift, first_terms}
use Rattle.curves.specs.Curves.{Curve, x_times}
use Rattle.curves.proofs.PowerRows.{row}

module _ {R : Ring} (L : RingLaws R) (h : Seq R) (E : ℕ → Seq R) (m K : ℕ) where
  open Series (Series R) use {Car as Plane, 𝟙 as 𝟙₂, plus as ◌⊕◌, times as ◌⊗◌}

  infixl 65 ◌⊕◌
  infixl 70 ◌⊗◌
  abbrev SR : Ring
  SR = Series R

  abbrev LL : RingLaws SR
  LL = series L

  -- (y - h)^i and y^i
  abbrev lin^ : ℕ → Plane
  lin^ i = pow (Series SR) (lin SR h) i

  abbrev y^ : ℕ → Plane
  y^ i = pow (Series SR) (x_s SR) i

  -- what the combination with the factors q is along h
  unfoldable pub expanded : (ℕ → Seq R) → Curve R
  expanded q = join SR m (λ j. mul_s R (E j) (q j)) (shift SR h K (drop SR m q))

  pub expanded-low : (q : ℕ → Seq R) (j : ℕ) → j < m → expanded q j ≡ mul_s R (E j) (q j)
  unfolding expanded
  expanded-low q j l = join-low LL m (λ j. mul_s R (E j) (q j)) (shift SR h K (drop SR m q)) j l

  pub expanded-high : (q : ℕ → Seq R) → drop SR m (expanded q) ≡ shift SR h K (drop SR m q)
  unfolding expanded
  expanded-high q = fun_ext (λ i. join-high LL m (λ j. mul_s R (E j) (q j)) (shift SR h K (drop SR m q)) i)

  pub expanded-below : (q : ℕ → Seq R) → Below SR (m + K) (expanded q)
  unfolding expanded
  expanded-below q = below-join LL m K (λ j. mul_s R (E j) (q j)) (shift SR h K (drop SR m q)) (below-shift LL h K (drop SR m q))

  low-term : (q : ℕ → Seq R) (i : ℕ) → i < m → x_times R (q i) (row R m E h i)
      ≡ const_s SR (expanded q i) ⊗ pow (Series SR) (x_plus SR (neg_s R h)) i
  unfolding row
  low-term q i l =
      let e : min i m ≡ i = omega arith in
      let z : i - m ≡ 0 = omega arith in
      sym (mul_const LL (q i) (row R m E h i))
      ∙ rw (e, z, pow-zero (Series SR) (x_s SR), expanded-low q i l, const-mul LL (E i) (q i), x_plus-neg SR h)
      (turn (const_s SR (q i)) (const_s SR (E i)) (lin^ i))
    where
      turn : (x y z : Plane) → x ⊗ (y ⊗ z ⊗ 𝟙₂) ≡ y ⊗ x ⊗ z
      turn x y z = ring (series LL) (x ∷ y ∷ z ∷ []) (search readings depth 25) tt

  high-term : (q : ℕ → Seq R) (i : ℕ) → E (m + i) ≡ one_s R → x_times R (q (m + i)) (row R m E h (m + i)) ≡ lin^ m ⊗ (const_s SR (q (m + i)) ⊗ y^ i)
  unfolding row
  high-term q i one =
      let e : min (m + i) m ≡ m = omega arith in
      let z : m + i - m ≡ i = omega arith in
      sym (mul_const LL (q (m + i)) (row R m E h (m + i)))
      ∙ rw (e, z, one, const-one LL)
      (turn (const_s SR (q (m + i))) (lin^ m) (y^ i))
    where
      turn : (x y z : Plane) → x ⊗ (𝟙₂ ⊗ y ⊗ z) ≡ y ⊗ (x ⊗ z)
      turn x y z = ring (series LL) (x ∷ y ∷ z ∷ []) (search readings depth 25) tt

  pub combination-is : (q : ℕ → Seq R) → ((i : ℕ) → E (m + i) ≡ one_s R)
      → sum (Series SR) (m + K) (λ i. x_times R (q i) (row R m E h i)) ≡ shift SR (neg_s R h) (m + K) (expanded q)
  combination-is q one =
      sum_split (series LL) m K (λ i. x_times R (q i) (row R m E h i))
      ∙ ap₂ ◌⊕◌
      (sum_cong (series LL) m (λ i. x_times R (q i) (row R m E h i)) (λ i. const_s SR (expanded q i) ⊗ pow (Series SR) (x_plus SR (neg_s R h)) i)
      (λ i l. low-term q i l))
      (sum_cong (series LL) K (λ i. x_times R (q (m + i)) (row R m E h (m + i))) (λ i. lin^ m ⊗ (const_s SR (q (m + i)) ⊗ y^ i))
      (λ i l. high-term q i (one i))
      ∙ sum-mul (series LL) (lin^ m) K (λ i. const_s SR (q (m + i)) ⊗ y^ i)
      ∙ ap₂ ◌⊗◌ (ap (λ (g : Plane). pow (Series SR) g m) (sym (x_plus-neg SR h))) (sym (first_terms LL K (drop SR m q)) ∙ sym back))
      ∙ sym (shift_split LL (neg_s R h) m K (expanded q))
    where
      back : shift SR (neg_s R h) K (drop SR m (expanded q)) ≡ shift SR SR.𝟘 K (drop SR m q)
      back = ap (shift SR (neg_s R h) K) (expanded-high q) ∙ shift-shift LL h (neg_s R h) K (drop SR m q) ∙ rw (neg-add_self LL h)
