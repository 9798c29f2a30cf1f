-- Below N: how many coefficients sums, products and the rest may have.
use mathlib.Core.Path.{◌≡◌, refl, ap, ◌∙◌, fun_ext}
use Prim.Native.Nat.{ℕ, zero, suc, ◌+◌, ◌≤◌, zero-le, suc-le-suc, ◌-◌}
use native.Mathlib.Decide.{ℕ_discrete, dec_le}
use native.Mathlib.Omega.{arith}
use Rattle.field.specs.Field.{Ring, RingLaws}
use Rattle.field.proofs.RingLaws.{add-zero, mul-zero, zero-mul, neg-zero}
use Rattle.poly.specs.Polynomials.{Seq, tail, zero_s, one_s, add_s, neg_s, scale_s, mul_s, cons_s, const_s, lin, Below}
use Rattle.poly.proofs.Series.{series, zero_s-at, add_s-at, neg_s-at, scale_s-at, mul_s-zero, mul_s-suc}
use Rattle.poly.proofs.Constants.{x_plus}

module _ {R : Ring} (L : RingLaws R) where
  open R use {Car, 𝟘, 𝟙, plus as ◌⊕◌, times as ◌⊗◌, neg as ⊖◌}

  infixl 65 ◌⊕◌
  infixl 70 ◌⊗◌
  infix 75 ⊖◌
  pub below-mono : {N M : ℕ} {f : Seq R} → N ≤ M → Below R N f → Below R M f
  below-mono le h i q = h i (omega arith)

  pub below-same : {N : ℕ} {f g : Seq R} → f ≡ g → Below R N g → Below R N f
  below-same e h i l = ap (λ (k : Seq R). k i) e ∙ h i l

  pub below-tail : {N : ℕ} {f : Seq R} → Below R (suc N) f → Below R N (tail R f)
  below-tail h i le = h (suc i) (suc-le-suc le)

  -- a sequence of no coefficients
  pub below-zero : {f : Seq R} → Below R zero f → f ≡ zero_s R
  unfolding zero_s
  below-zero h = fun_ext (λ i. h i zero-le)

  -- one coefficient less
  pub below-drop : (N : ℕ) (f : Seq R) → Below R (suc N) f → f N ≡ 𝟘 → Below R N f
  below-drop N f h z i l = go (ℕ_discrete i N)
    where
      go : Dec (i ≡ N) → f i ≡ 𝟘
      go (yes e) = rw e z
      go (no e) = h i (omega arith)

  pub below-null : (N : ℕ) → Below R N (zero_s R)
  below-null N i l = zero_s-at R i

  pub below-cons : {N : ℕ} {f : Seq R} (c : Car) → Below R N f → Below R (suc N) (cons_s R c f)
  unfolding cons_s
  below-cons c h zero l = absurd (omega arith)
  below-cons c h (suc i) l = h i (omega arith)

  pub below-one : Below R 1 (one_s R)
  unfolding one_s
  below-one zero l = absurd (omega arith)
  below-one (suc i) l = refl

  pub below_const : (c : Car) → Below R 1 (const_s R c)
  unfolding const_s
  below_const c = below-cons c (below-null zero)

  pub below-x_plus : (a : Car) → Below R 2 (x_plus R a)
  unfolding x_plus
  below-x_plus a = below-cons a below-one

  pub below-lin : (a : Car) → Below R 2 (lin R a)
  unfolding lin
  below-lin a = below-cons (⊖ a) below-one

  pub below-add : {N : ℕ} {f g : Seq R} → Below R N f → Below R N g → Below R N (add_s R f g)
  below-add hf hg i le = rw (add_s-at R, hf i le, hg i le) (add-zero L 𝟘)

  pub below-neg : {N : ℕ} {f : Seq R} → Below R N f → Below R N (neg_s R f)
  below-neg h i l = rw (neg_s-at R, h i l) (neg-zero L)

  pub below-scale : {N : ℕ} {f : Seq R} (c : Car) → Below R N f → Below R N (scale_s R c f)
  below-scale c h i l = rw (scale_s-at R, h i l) (mul-zero L c)

  -- of degree at most N and below M: the product is of degree below N + M
  pub below-mul_tight : (N M : ℕ) (f g : Seq R) → Below R (suc N) f → Below R M g → Below R (N + M) (mul_s R f g)
  below-mul_tight zero M f g hf hg zero l = rw (mul_s-zero R f g, hg zero (omega arith)) (mul-zero L _)
  below-mul_tight (suc N) M f g hf hg zero l = absurd (omega arith)
  below-mul_tight zero M f g hf hg (suc i) l =
      rw (mul_s-suc R f g i, hg (suc i) (omega arith), below-zero (below-tail hf), zero-mul (series L) g, zero_s-at R i, mul-zero) (add-zero L 𝟘)
  below-mul_tight (suc N) M f g hf hg (suc i) l =
      rw (mul_s-suc R f g i, hg (suc i) (omega arith), below-mul_tight N M (tail R f) g (below-tail hf) hg i (omega arith), mul-zero) (add-zero L 𝟘)

  pub below-mul : (N M : ℕ) (f g : Seq R) → Below R N f → Below R M g → Below R (N + M) (mul_s R f g)
  below-mul zero M f g hf hg = below-same (ap (λ (k : Seq R). mul_s R k g) (below-zero hf) ∙ zero-mul (series L) g) (below-null (zero + M))
  below-mul (suc N) M f g hf hg = λ i l. below-mul_tight N M f g hf hg i (omega arith)

  -- of degree at most u and below W - u, also where W is below u
  pub below-product : (u W : ℕ) (f g : Seq R) → Below R (suc u) f → Below R (W - u) g → Below R W (mul_s R f g)
  below-product u W f g hf hg = go (dec_le u W)
    where
      go : Dec (u ≤ W) → Below R W (mul_s R f g)
      go (yes k) i l = below-mul_tight u (W - u) f g hf hg i (omega arith)
      go (no k) i l = rw (below-zero {f = g} (λ t q. hg t (omega arith)), mul-zero (series L) f) (zero_s-at R i)
