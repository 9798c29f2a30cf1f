-- Leading coefficients: the degree of a product is the sum of the degrees, and products of monic polynomials are monic.
use mathlib.Core.Path.{◌≡◌, refl, ap₂, ◌∙◌}
use mathlib.Core.Logic.{◌≢◌, ◌⊎◌, inl, inr}
use Prim.Native.Nat.{ℕ, zero, suc, ◌+◌, ◌-◌, ◌*◌, ◌<◌}
use native.Mathlib.Decide.{dec_lt}
use native.Mathlib.Omega.{arith}
use Rattle.field.specs.Field.{Ring, RingLaws, pow, prod, Field, FieldLaws}
use Rattle.field.proofs.RingLaws.{zero-mul, mul-zero, mul-one}
use Rattle.field.proofs.Sums.{pow-zero, pow-suc, prod-zero, prod-suc}
use Rattle.poly.specs.Polynomials.{Seq, zero_s, one_s, mul_s, Series, cons_s, lin, Below, locator, x_s}
use Rattle.poly.proofs.Series.{mul_s-single}
use Rattle.poly.proofs.Bounds.{below-zero, below-drop, below-one, below-lin, below-mul_tight, below-cons}

-- m 0 + .. + m (n-1)
unfoldable pub sum_below : ℕ → (ℕ → ℕ) → ℕ
sum_below zero m = 0
sum_below (suc n) m = sum_below n m + m n

pub sum_below-zero : (m : ℕ → ℕ) → sum_below zero m ≡ 0
unfolding sum_below
sum_below-zero m = refl

pub sum_below-suc : (n : ℕ) (m : ℕ → ℕ) → sum_below (suc n) m ≡ sum_below n m + m n
unfolding sum_below
sum_below-suc n m = refl

pub sum_below_ones : (n : ℕ) → sum_below n (λ s. 1) ≡ n
sum_below_ones zero = sum_below-zero (λ s. 1)
sum_below_ones (suc n) = let e = sum_below-suc n (λ s. 1) in let d = sum_below_ones n in omega arith

module _ (R : Ring) where
  open R use {𝟘, 𝟙}

  pub record Leads (d : ℕ) (f : Seq R) : Type 0 where
    pub lead : f d ≢ 𝟘
    pub rest : Below R (suc d) f

  -- of degree d, with leading coefficient one
  pub record Monic (d : ℕ) (f : Seq R) : Type 0 where
    pub top : f d ≡ 𝟙
    pub rest : Below R (suc d) f

module _ {R : Ring} (L : RingLaws R) where
  open R use {Car, 𝟘, 𝟙, plus as ◌⊕◌, times as ◌⊗◌, neg as ⊖◌}

  infixl 65 ◌⊕◌
  infixl 70 ◌⊗◌
  infix 75 ⊖◌
  -- the coefficient at the sum of the two degrees
  pub lead-mul : (N M : ℕ) (f g : Seq R) → Below R (suc N) f → Below R (suc M) g → mul_s R f g (N + M) ≡ f N ⊗ g M
  lead-mul N M f g hf hg = mul_s-single L N M f g (λ u q n. go u q n (dec_lt u N))
    where
      go : (u : ℕ) → u < suc (N + M) → u ≢ N → Dec (u < N) → f u ⊗ g (N + M - u) ≡ 𝟘
      go u q n (yes h) = rw (hg (N + M - u) (omega arith)) (mul-zero L _)
      go u q n (no h) = rw (hf u (omega arith)) (zero-mul L _)

  pub monic-same : {d e : ℕ} {f g : Seq R} → d ≡ e → f ≡ g → Monic R e g → Monic R d f
  monic-same p q h = rw (p, q) h

  pub monic-one : Monic R 0 (one_s R)
  unfolding one_s
  monic-one = record { top = refl; rest = below-one L }

  pub monic-x : Monic R 1 (x_s R)
  unfolding x_s cons_s one_s
  monic-x = record { top = refl; rest = below-cons L 𝟘 (below-one L) }

  pub monic-lin : (a : Car) → Monic R 1 (lin R a)
  unfolding lin cons_s one_s
  monic-lin a = record { top = refl; rest = below-lin L a }

  pub monic-mul : (d e : ℕ) (f g : Seq R) → Monic R d f → Monic R e g → Monic R (d + e) (mul_s R f g)
  monic-mul d e f g hf hg =
      record {
        top = lead-mul d e f g hf.rest hg.rest ∙ ap₂ ◌⊗◌ hf.top hg.top ∙ mul-one L 𝟙;
        rest = λ i l. below-mul_tight L d (suc e) f g hf.rest hg.rest i (omega arith);
      }

module _ {R : Ring} (L : RingLaws R) where
  pub monic-pow : (d m : ℕ) (g : Seq R) → Monic R d g → Monic R (m * d) (pow (Series R) g m)
  monic-pow d zero g h = monic-same L (omega arith) (pow-zero (Series R) g) (monic-one L)
  monic-pow d (suc m) g h = monic-same L (omega arith) (pow-suc (Series R) g m) (monic-mul L d (m * d) g (pow (Series R) g m) h (monic-pow d m g h))

  pub monic-prod : (n : ℕ) (d : ℕ → ℕ) (g : ℕ → Seq R) → ((i : ℕ) → Monic R (d i) (g i)) → Monic R (sum_below n d) (prod (Series R) n g)
  monic-prod zero d g h = monic-same L (sum_below-zero d) (prod-zero (Series R) g) (monic-one L)
  monic-prod (suc n) d g h =
      monic-same L (sum_below-suc n d) (prod-suc (Series R) n g)
      (monic-mul L (sum_below n d) (d n) (prod (Series R) n g) (g n) (monic-prod n d g h) (h n))

  pub monic-locator : (n : ℕ) (a : ℕ → R.Car) → Monic R n (locator R n a)
  monic-locator n a = rw (sum_below_ones n) at (monic-prod n (λ s. 1) (λ s. lin R (a s)) (λ s. monic-lin L (a s)))

module _ {F : Field} (Φ : FieldLaws F) where
  abbrev R : Ring
  R = F.ring

  -- f is zero, or has a leading coefficient
  pub degree : (N : ℕ) (f : Seq R) → Below R N f → (f ≡ zero_s R) ⊎ ((d : ℕ) × Leads R d f)
  degree zero f h = inl (below-zero Φ.ring h)
  degree (suc N) f h = go (F.same? (f N) R.𝟘) (λ b. degree N f b)
    where
      go : Dec (f N ≡ R.𝟘) → (Below R N f → (f ≡ zero_s R) ⊎ ((d : ℕ) × Leads R d f)) → (f ≡ zero_s R) ⊎ ((d : ℕ) × Leads R d f)
      go (yes e) ih = ih (below-drop Φ.ring N f h e)
      go (no n) ih = inr (N, record { lead = n; rest = h })
