-- Rows E_i (y - h)^min(i,m) y^(i-m): monic in y up to the factor E_i, and how much their terms weigh.
use mathlib.Core.Path.{◌≡◌, refl, ap, ap₂, ◌∙◌}
use Prim.Native.Nat.{ℕ, zero, suc, ◌+◌, ◌-◌, ◌*◌, ◌≤◌, ◌<◌, min}
use native.Mathlib.Omega.{arith}
use native.Mathlib.Decide.{dec_le}
use Rattle.field.specs.Field.{Ring, RingLaws, pow}
use Rattle.field.proofs.RingLaws.{add-zero, zero-mul, mul-zero, mul-one, mul_assoc, neg-zero}
use Rattle.field.proofs.Sums.{pow-zero, pow-suc, sum-null}
use Rattle.poly.specs.Polynomials.{Seq, Series, tail, mul_s, neg_s, zero_s, one_s, cons_s, const_s, x_s, lin, Below}
use Rattle.poly.proofs.Series.{series, mul_s-zero, mul_s-suc, mul_s-sum, add_s-at, scale_s-at}
use Rattle.poly.proofs.Constants.{mul_const}
use Rattle.poly.proofs.Degrees.{Monic, monic-lin, monic-mul, monic-pow, monic-same, monic-x}
use Rattle.curves.specs.Curves.{Curve, Finite, Height, x_times}
use Rattle.curves.proofs.Heights.{below-height}

module _ (R : Ring) where
  open Series (Series R) use {times as ◌⊗◌}

  infixl 70 ◌⊗◌
  -- E_i (y - h)^i for i up to m, E_i y^(i-m) (y - h)^m above
  unfoldable pub row : ℕ → (ℕ → Seq R) → Seq R → ℕ → Curve R
  row m E h i = const_s (Series R) (E i) ⊗ pow (Series (Series R)) (lin (Series R) h) (min i m) ⊗ pow (Series (Series R)) (x_s (Series R)) (i - m)

  -- every term weighs less than W, if x^i weighs i + c
  abbrev Low : ℕ → ℕ → Seq R → Type 0
  Low W c f = (i : ℕ) → W ≤ i + c → f i ≡ R.𝟘

  -- every term weighs less than W, if x^i y^j weighs i + u j + c
  abbrev Lighter : ℕ → ℕ → ℕ → Curve R → Type 0
  Lighter u W c Q = (j : ℕ) → Low W (u * j + c) (Q j)

module _ {R : Ring} (L : RingLaws R) where
  open R use {Car, 𝟘, plus as ◌⊕◌, times as ◌⊗◌, neg as ⊖◌}

  infixl 65 ◌⊕◌
  infixl 70 ◌⊗◌
  infix 75 ⊖◌
  low-mul : (X w c d : ℕ) (f g : Seq R) → Low R X c f → Low R (suc w) d g → Low R (X + w) (c + d) (mul_s R f g)
  low-mul X w c d f g hf hg i l = mul_s-sum L f g i ∙ sum-null L (suc i) (λ k. f k ⊗ g (i - k)) (λ k q. go k q (dec_le X (k + c)))
    where
      go : (k : ℕ) → k < suc i → Dec (X ≤ k + c) → f k ⊗ g (i - k) ≡ 𝟘
      go k q (yes h) = rw (hf k h) (zero-mul L _)
      go k q (no h) = rw (hg (i - k) (omega arith)) (mul-zero L _)

  light-mul : (u X w c : ℕ) (P Q : Curve R) → Lighter R u X c P → Lighter R u (suc w) 0 Q → Lighter R u (X + w) c (mul_s (Series R) P Q)
  light-mul u X w c P Q hP hQ zero i l =
      ap (λ (f : Seq R). f i) (mul_s-zero (Series R) P Q) ∙ low-mul X w (u * 0 + c) (u * 0 + 0) (P 0) (Q 0) (hP 0) (hQ 0) i (omega arith)
  light-mul u X w c P Q hP hQ (suc j) i l =
      ap (λ (f : Seq R). f i) (mul_s-suc (Series R) P Q j)
      ∙ add_s-at R (mul_s R (P 0) (Q (suc j))) (mul_s (Series R) (tail (Series R) P) Q j) i
      ∙ ap₂ ◌⊕◌
      (low-mul X w (u * 0 + c) (u * suc j + 0) (P 0) (Q (suc j)) (hP 0) (hQ (suc j)) i (omega arith))
      (light-mul u X w (c + u) (tail (Series R) P) Q (λ a b q. hP (suc a) b (omega arith)) hQ j i (omega arith))
      ∙ add-zero L 𝟘

  light-one : (u : ℕ) → Lighter R u 1 0 (one_s (Series R))
  unfolding one_s zero_s
  light-one u zero zero l = absurd (omega arith)
  light-one u zero (suc i) l = refl
  light-one u (suc j) i l = refl

  light-pow : (u w k : ℕ) (P : Curve R) → Lighter R u (suc w) 0 P → Lighter R u (suc (k * w)) 0 (pow (Series (Series R)) P k)
  light-pow u w zero P h j i l = ap (λ (T : Curve R). T j i) (pow-zero (Series (Series R)) P) ∙ light-one u j i (omega arith)
  light-pow u w (suc k) P h j i l =
      ap (λ (T : Curve R). T j i) (pow-suc (Series (Series R)) P k)
      ∙ light-mul u (suc w) (k * w) 0 P (pow (Series (Series R)) P k) h (light-pow u w k P h) j i (omega arith)

  light_const : (u d : ℕ) (f : Seq R) → Below R (suc d) f → Lighter R u (suc d) 0 (const_s (Series R) f)
  unfolding const_s cons_s zero_s
  light_const u d f h zero i l = h i (omega arith)
  light_const u d f h (suc j) i l = refl

  light-y : (u : ℕ) → Lighter R u (suc u) 0 (x_s (Series R))
  unfolding x_s cons_s one_s zero_s
  light-y u zero i l = refl
  light-y u (suc zero) zero l = absurd (omega arith)
  light-y u (suc zero) (suc i) l = refl
  light-y u (suc (suc j)) i l = refl

  -- y - h, the degree of h being at least u
  light-lin : (u w : ℕ) (h : Seq R) → u ≤ w → Below R (suc w) h → Lighter R u (suc w) 0 (lin (Series R) h)
  unfolding lin neg_s cons_s one_s zero_s
  light-lin u w h le b zero i l = ap (λ (x : Car). ⊖ x) (b i (omega arith)) ∙ neg-zero L
  light-lin u w h le b (suc zero) zero l = absurd (omega arith)
  light-lin u w h le b (suc zero) (suc i) l = refl
  light-lin u w h le b (suc (suc j)) i l = refl

  -- row i, the degree of E_i being at most d and that of h at most w
  module _ (m : ℕ) (E : ℕ → Seq R) (h : Seq R) (i d w : ℕ) (e : Below R (suc d) (E i)) (b : Below R (suc w) h) where
    pub row-light : (u : ℕ) → u ≤ w → (j t : ℕ) → d + min i m * w + (i - m) * u < t + u * j → row R m E h i j t ≡ 𝟘
    unfolding row
    row-light u le j t l =
        light-mul u (suc (d + min i m * w)) ((i - m) * u) 0 _ _
        (λ j t l. light-mul u (suc d) (min i m * w) 0 _ _ (light_const u d (E i) e)
        (light-pow u w (min i m) (lin (Series R) h) (light-lin u w h le b)) j t (omega arith))
        (light-pow u u (i - m) (x_s (Series R)) (light-y u)) j t (omega arith)

    pub row-finite : Finite R (row R m E h i)
    row-finite = (suc (d + min i m * w), λ j t l. row-light 0 (omega arith) j t (omega arith))

  module _ (m : ℕ) (E : ℕ → Seq R) (h : Seq R) (i : ℕ) where
    abbrev LL : RingLaws (Series R)
    LL = series L

    -- the row without E_i
    abbrev rest : Curve R
    rest = mul_s (Series R) (pow (Series (Series R)) (lin (Series R) h) (min i m)) (pow (Series (Series R)) (x_s (Series R)) (i - m))

    row-is : row R m E h i ≡ x_times R (E i) rest
    unfolding row
    row-is = mul_assoc (series LL) _ _ _ ∙ mul_const LL (E i) rest

    rest-monic : Monic (Series R) i rest
    rest-monic =
        monic-same LL (omega arith) refl
        (monic-mul LL (min i m * 1) ((i - m) * 1) _ _ (monic-pow LL 1 (min i m) (lin (Series R) h) (monic-lin LL h))
        (monic-pow LL 1 (i - m) (x_s (Series R)) (monic-x LL)))

    pub row-top : row R m E h i i ≡ E i
    row-top = ap (λ (Q : Curve R). Q i) row-is ∙ scale_s-at (Series R) (E i) rest i ∙ ap (mul_s R (E i)) rest-monic.top ∙ mul-one LL (E i)

    pub row-height : Height R (suc i) (row R m E h i)
    row-height =
        below-height R (λ j l. ap (λ (Q : Curve R). Q j) row-is ∙ scale_s-at (Series R) (E i) rest j ∙ ap (mul_s R (E i)) (rest-monic.rest j l)
        ∙ mul-zero LL (E i))
