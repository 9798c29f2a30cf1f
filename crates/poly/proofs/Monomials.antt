-- c x^d as a factor: it moves coefficients up by d. Products and powers of x^d, and the negative.
use mathlib.Core.Path.{◌≡◌, refl, sym, ap, ap₂, ◌∙◌}
use Prim.Native.Nat.{ℕ, zero, suc, ◌+◌, ◌*◌, ◌<◌}
use native.Mathlib.Nat.{zero-add as n-zero-add, suc-add, mul-zero as n-mul-zero}
use native.Mathlib.Omega.{arith}
use Rattle.field.specs.Field.{Ring, RingLaws, pow}
use Rattle.field.proofs.RingLaws.{zero-add, mul_assoc, mul-zero, zero-mul, one-mul, neg-zero}
use Rattle.field.proofs.Sums.{pow-zero, pow-suc}
use Rattle.poly.specs.Polynomials.{Seq, neg_s, mul_s, Series, cons_s, const_s, x_s, Below, mono}
use Rattle.poly.proofs.Series.{series, mul_s-zero, mul_s-suc, neg_s-at, scale_s-at}
use Rattle.poly.proofs.Constants.{mul_const, mul-x, const-one, const-neg, cons_s-zero, cons_s-suc, cons_ext}
use Rattle.poly.proofs.Bounds.{below-cons, below_const}

module _ (R : Ring) where
  open R use {𝟘}

  -- x^d f: d zeros, then f
  unfoldable pub delay : ℕ → Seq R → Seq R
  delay zero f i = f i
  delay (suc d) f zero = 𝟘
  delay (suc d) f (suc i) = delay d f i

  pub delay-zero : (f : Seq R) (i : ℕ) → delay zero f i ≡ f i
  unfolding delay
  delay-zero f i = refl

  pub delay-at : (d i : ℕ) (f : Seq R) → delay d f (d + i) ≡ f i
  unfolding delay
  delay-at zero i f = rw (n-zero-add i)
  delay-at (suc d) i f = rw (suc-add d i) (delay-at d i f)

  pub delay-null : (d i : ℕ) (f : Seq R) → ((e : ℕ) → d + e ≡ i → f e ≡ 𝟘) → delay d f i ≡ 𝟘
  unfolding delay
  delay-null zero i f h = h i (omega arith)
  delay-null (suc d) zero f h = refl
  delay-null (suc d) (suc i) f h = delay-null d i f (λ e q. h e (omega arith))

  pub mono-zero : (c : R.Car) → mono R c zero ≡ const_s R c
  unfolding mono
  mono-zero c = refl

  mono-suc : (c : R.Car) (d : ℕ) → mono R c (suc d) ≡ cons_s R R.𝟘 (mono R c d)
  unfolding mono
  mono-suc c d = refl

module _ {R : Ring} (L : RingLaws R) where
  open R use {Car, 𝟘, 𝟙, plus as ◌⊕◌, times as ◌⊗◌, neg as ⊖◌}

  infixl 65 ◌⊕◌
  infixl 70 ◌⊗◌
  infix 75 ⊖◌
  pub mono-below : (c : Car) (d : ℕ) → Below R (suc d) (mono R c d)
  unfolding mono
  mono-below c zero = below_const L c
  mono-below c (suc d) = below-cons L 𝟘 (mono-below c d)

  pub mono-mul : (c : Car) (d : ℕ) (f : Seq R) (i : ℕ) → mul_s R (mono R c d) f i ≡ c ⊗ delay R d f i
  unfolding mono delay cons_s
  mono-mul c zero f i = ap (λ (g : Seq R). g i) (mul_const L c f) ∙ scale_s-at R c f i
  mono-mul c (suc d) f zero = mul_s-zero R (cons_s R 𝟘 (mono R c d)) f ∙ zero-mul L _ ∙ sym (mul-zero L c)
  mono-mul c (suc d) f (suc i) = mul_s-suc R (cons_s R 𝟘 (mono R c d)) f i ∙ ap₂ ◌⊕◌ (zero-mul L _) (mono-mul c d f i) ∙ zero-add L _

  pub mono-mul-at : (c : Car) (d e : ℕ) (f : Seq R) → mul_s R (mono R c d) f (d + e) ≡ c ⊗ f e
  mono-mul-at c d e f = mono-mul c d f (d + e) ∙ rw (delay-at R d e f)

  pub mono-mul-low : (c : Car) (d e : ℕ) (f : Seq R) → e < d → mul_s R (mono R c d) f e ≡ 𝟘
  mono-mul-low c d e f l = mono-mul c d f e ∙ rw (delay-null R d e f (λ i q. absurd (omega arith))) (mul-zero L c)

  mono-suc-mul : (c : Car) (d : ℕ) (f : Seq R) → mul_s R (mono R c (suc d)) f ≡ cons_s R 𝟘 (mul_s R (mono R c d) f)
  mono-suc-mul c d f = rw (mono-suc R c d, ← mul-x L (mono R c d), mul_assoc (series L) (x_s R) (mono R c d) f) (mul-x L (mul_s R (mono R c d) f))

  -- x^b c x^d = c x^(b+d)
  pub mono-mono : (b : ℕ) (c : Car) (d : ℕ) → mul_s R (mono R 𝟙 b) (mono R c d) ≡ mono R c (b + d)
  mono-mono zero c d = rw (mono-zero R 𝟙, const-one L, n-zero-add d) (one-mul (series L) (mono R c d))
  mono-mono (suc b) c d = rw (mono-suc-mul 𝟙 b (mono R c d), mono-mono b c d, suc-add b d) (sym (mono-suc R c (b + d)))

  pub mono-pow : (i j : ℕ) → pow (Series R) (mono R 𝟙 i) j ≡ mono R 𝟙 (i * j)
  mono-pow i zero = rw (pow-zero (Series R) (mono R 𝟙 i), n-mul-zero i, mono-zero R 𝟙) (sym (const-one L))
  mono-pow i (suc j) = let e : i + i * j ≡ i * suc j = omega arith in rw (pow-suc (Series R) (mono R 𝟙 i) j, mono-pow i j, mono-mono i 𝟙 (i * j), e)

  pub mono-neg : (c : Car) (d : ℕ) → mono R (⊖ c) d ≡ neg_s R (mono R c d)
  mono-neg c zero = rw (mono-zero R (⊖ c), mono-zero R c) (const-neg L c)
  mono-neg c (suc d) =
      rw (mono-suc R (⊖ c) d, mono-suc R c d, mono-neg c d)
      (cons_ext L (cons_s R 𝟘 (neg_s R (mono R c d))) (neg_s R (cons_s R 𝟘 (mono R c d)))
      (rw (cons_s-zero R 𝟘 (neg_s R (mono R c d)), neg_s-at R (cons_s R 𝟘 (mono R c d)) 0, cons_s-zero R 𝟘 (mono R c d)) (sym (neg-zero L)))
      (λ n. rw (
        cons_s-suc R 𝟘 (neg_s R (mono R c d)) n,
        neg_s-at R (mono R c d) n,
        neg_s-at R (cons_s R 𝟘 (mono R c d)) (suc n),
        cons_s-suc R 𝟘 (mono R c d) n,
      )))
