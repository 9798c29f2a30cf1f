-- Orders at the origin: Ord n f says that x^n divides f. Orders of a product add, and a factor whose lowest coefficient cancels can be
-- cancelled: so a polynomial over a field divides zero only if it is zero.
use mathlib.Core.Path.{◌≡◌, sym, ap, ◌∙◌, fun_ext}
use mathlib.Core.Logic.{◌≢◌, ◌⊎◌, inl, inr}
use Prim.Native.Nat.{ℕ, zero, suc, ◌+◌, ◌-◌, ◌<◌}
use native.Mathlib.Decide.{dec_lt, ℕ_discrete}
use native.Mathlib.Nat.{zero-add}
use native.Mathlib.Omega.{arith}
use Rattle.field.specs.Field.{Ring, RingLaws, Field, FieldLaws}
use Rattle.field.proofs.RingLaws.{add-zero, add-neg, neg-zero, zero-mul, mul-zero, one-mul}
use Rattle.field.proofs.Sums.{sum-null}
use Rattle.field.proofs.FieldLaws.{no-zero_divisor}
use Rattle.poly.specs.Polynomials.{Seq, tail, zero_s, add_s, neg_s, mul_s, Series, cons_s, const_s, Below, value}
use Rattle.poly.proofs.Series.{zero_s-at, add_s-at, neg_s-at, mul_s-sum, mul_s-single}
use Rattle.poly.proofs.Constants.{cons_ext}
use Rattle.poly.proofs.Bounds.{below-zero, below-tail}
use Rattle.poly.proofs.Evaluation.{value-zero, value-suc}

module _ (R : Ring) where
  open R use {Car, 𝟘, times as ◌⊗◌}

  infixl 70 ◌⊗◌
  -- the coefficients below x^n are zero
  abbrev pub Ord : ℕ → Seq R → Type 0
  Ord n f = (i : ℕ) → i < n → f i ≡ 𝟘

  -- c cancels: it divides no zero
  abbrev pub Regular : Car → Type 0
  Regular c = (x : Car) → c ⊗ x ≡ 𝟘 → x ≡ 𝟘

  -- for Q j i the coefficient of x^i y^j: every one with i + j < m is zero
  abbrev pub Vanish : ℕ → Seq (Series R) → Type 0
  Vanish m Q = (j : ℕ) → Ord (m - j) (Q j)

module _ {R : Ring} (L : RingLaws R) where
  open R use {Car, 𝟘, 𝟙, plus as ◌⊕◌, times as ◌⊗◌, neg as ⊖◌}

  infixl 65 ◌⊕◌
  infixl 70 ◌⊗◌
  infix 75 ⊖◌
  pub ord-add : {n : ℕ} {f g : Seq R} → Ord R n f → Ord R n g → Ord R n (add_s R f g)
  ord-add hf hg i l = rw (add_s-at R, hf i l, hg i l) (add-zero L 𝟘)

  pub ord-neg : {n : ℕ} {f : Seq R} → Ord R n f → Ord R n (neg_s R f)
  ord-neg h i l = rw (neg_s-at R, h i l) (neg-zero L)

  -- without its constant term
  pub ord-minus_const : (f : Seq R) (c : Car) → f zero ≡ c → Ord R 1 (add_s R f (neg_s R (const_s R c)))
  unfolding add_s neg_s const_s cons_s
  ord-minus_const f c e zero l = ap (λ (x : Car). x ⊕ ⊖ c) e ∙ add-neg L c
  ord-minus_const f c e (suc i) l = absurd (omega arith)

  pub ord-mul : (n m : ℕ) (f g : Seq R) → Ord R n f → Ord R m g → Ord R (n + m) (mul_s R f g)
  ord-mul n m f g hf hg i l = rw (mul_s-sum L f g i) (sum-null L (suc i) (λ u. f u ⊗ g (i - u)) (λ u q. go u q (dec_lt u n)))
    where
      go : (u : ℕ) → u < suc i → Dec (u < n) → f u ⊗ g (i - u) ≡ 𝟘
      go u q (yes h) = rw (hf u h) (zero-mul L _)
      go u q (no h) = rw (hg (i - u) (omega arith)) (mul-zero L _)

  -- the coefficient at the sum of the two orders
  pub ord-mul-lowest : (n m : ℕ) (f g : Seq R) → Ord R n f → Ord R m g → mul_s R f g (n + m) ≡ f n ⊗ g m
  ord-mul-lowest n m f g hf hg = mul_s-single L n m f g (λ u q e. go u q e (dec_lt u n))
    where
      go : (u : ℕ) → u < suc (n + m) → u ≢ n → Dec (u < n) → f u ⊗ g (n + m - u) ≡ 𝟘
      go u q e (yes h) = rw (hf u h) (zero-mul L _)
      go u q e (no h) = rw (hg (n + m - u) (omega arith)) (mul-zero L _)

  pub ord-cancel : (n k : ℕ) (f g : Seq R) → Ord R n f → Regular R (f n) → Ord R (n + k) (mul_s R f g) → Ord R k g
  ord-cancel n zero f g hf r h i l = absurd (omega arith)
  ord-cancel n (suc k) f g hf r h i l = go (ord-cancel n k f g hf r (λ j q. h j (omega arith))) (ℕ_discrete i k)
    where
      go : Ord R k g → Dec (i ≡ k) → g i ≡ 𝟘
      go low (yes e) = rw e (r (g k) (sym (ord-mul-lowest n k f g hf low) ∙ h (n + k) (omega arith)))
      go low (no e) = low i (omega arith)

  -- a sequence whose lowest coefficient cancels, cancels
  pub regular-series : (n : ℕ) (f : Seq R) → Ord R n f → Regular R (f n) → Regular (Series R) f
  unfolding zero_s
  regular-series n f o r g e = fun_ext (λ k. ord-cancel n (suc k) f g o r (λ i l. ap (λ (h : Seq R). h i) e) k (omega arith))

  pub regular-one : Regular R 𝟙
  regular-one x e = sym (one-mul L x) ∙ e

module _ {R : Ring} (L : RingLaws R) where
  open R use {Car, plus as ◌⊕◌, times as ◌⊗◌}
  open Series R use {times as ◌⊠◌}

  infixl 65 ◌⊕◌
  infixl 70 ◌⊗◌ ◌⊠◌
  -- the coefficient of x^v in P at y = f, where x^v divides P
  pub value-order : (v N : ℕ) (P : Seq (Series R)) (f : Seq R) → ((j : ℕ) → Ord R v (P j)) → Ord R v (value (Series R) f N P)
  value-order v zero P f o i l = ap (λ (k : Seq R). k i) (value-zero (Series R) f P) ∙ zero_s-at R i
  value-order v (suc N) P f o i l =
      let U : Seq R = value (Series R) f N (tail (Series R) P) in
      ap (λ (k : Seq R). k i) (value-suc (Series R) f N P)
      ∙ ord-add L {n = v} {f = P 0} {g = f ⊠ U} (o 0)
      (λ t q. ord-mul L 0 v f U (λ s h. absurd (omega arith)) (value-order v N (tail (Series R) P) f (λ j. o (suc j))) t (omega arith)) i l

  pub value-lowest : (v N : ℕ) (P : Seq (Series R)) (f : Seq R) → ((j : ℕ) → Ord R v (P j)) → value (Series R) f N P v ≡ value R (f 0) N (λ j. P j v)
  value-lowest v zero P f o = ap (λ (k : Seq R). k v) (value-zero (Series R) f P) ∙ zero_s-at R v ∙ sym (value-zero R (f 0) (λ j. P j v))
  value-lowest v (suc N) P f o =
      let U : Seq R = value (Series R) f N (tail (Series R) P) in
      let low : mul_s R f U (0 + v) ≡ f 0 ⊗ U v =
      ord-mul-lowest L 0 v f U (λ s h. absurd (omega arith)) (value-order v N (tail (Series R) P) f (λ j. o (suc j))) in
      ap (λ (k : Seq R). k v) (value-suc (Series R) f N P)
      ∙ add_s-at R (P 0) (f ⊠ U) v
      ∙ ap (λ (c : Car). P 0 v ⊕ c)
      (ap (mul_s R f U) (sym (zero-add v)) ∙ low ∙ ap (λ (c : Car). f 0 ⊗ c) (value-lowest v N (tail (Series R) P) f (λ j. o (suc j))))
      ∙ sym (value-suc R (f 0) N (λ j. P j v))

module _ {F : Field} (Φ : FieldLaws F) where
  abbrev R : Ring
  R = F.ring

  -- f is zero, or has a lowest coefficient
  pub lowest : (N : ℕ) (f : Seq R) → Below R N f → (f ≡ zero_s R) ⊎ ((n : ℕ) × Ord R n f × (f n ≢ R.𝟘))
  lowest zero f h = inl (below-zero Φ.ring h)
  lowest (suc N) f h = go (F.same? (f zero) R.𝟘) (lowest N (tail R f) (below-tail Φ.ring h))
    where
      go : Dec (f zero ≡ R.𝟘) → (tail R f ≡ zero_s R) ⊎ ((n : ℕ) × Ord R n (tail R f) × (f (suc n) ≢ R.𝟘))
          → (f ≡ zero_s R) ⊎ ((n : ℕ) × Ord R n f × (f n ≢ R.𝟘))
      go (no e) r = inr (zero, (λ i l. absurd (omega arith)), e)
      go (yes e) (inl z) =
          inl (cons_ext Φ.ring f (zero_s R) (e ∙ sym (zero_s-at R zero)) (λ n. ap (λ (g : Seq R). g n) z ∙ zero_s-at R n
          ∙ sym (zero_s-at R (suc n))))
      go (yes e) (inr t) = inr (suc t.0, low, t.2)
        where
          low : Ord R (suc t.0) f
          low zero l = e
          low (suc i) l = t.1 i (omega arith)

  -- no zero divisors: a polynomial that is not zero cancels, even among sequences without end
  pub no-zero_divisors : (N : ℕ) (f : Seq R) → Below R N f → f ≢ zero_s R → Regular (Series R) f
  no-zero_divisors N f h n = go (lowest N f h)
    where
      go : (f ≡ zero_s R) ⊎ ((d : ℕ) × Ord R d f × (f d ≢ R.𝟘)) → Regular (Series R) f
      go (inl z) = absurd (n z)
      go (inr t) = regular-series Φ.ring t.0 f t.1 (λ x. no-zero_divisor Φ (f t.0) x t.2)
