-- The polynomial of degree below n through n points: Newton's form gives one, and the roots of a difference show that there is no other.
use mathlib.Core.Path.{◌≡◌, sym, ap, ap₂, ◌∙◌}
use mathlib.Core.Logic.{◌≢◌}
use mathlib.Core.List.{[], ◌∷◌}
use Prim.Native.Nat.{ℕ, zero, suc, ◌+◌, ◌<◌}
use native.Mathlib.Decide.{ℕ_discrete}
use native.Mathlib.Omega.{arith}
use Rattle.field.specs.Field.{Ring, RingLaws, prod, Field, FieldLaws}
use Rattle.field.proofs.RingLaws.{add-neg, mul-zero, zero-mul, difference-zero}
use Rattle.field.proofs.RingTactic.{ring, reading}
use Rattle.field.proofs.Sums.{prod-zero, prod-suc}
use Rattle.field.proofs.FieldLaws.{divided}
use Rattle.poly.specs.Polynomials.{Seq, zero_s, add_s, neg_s, scale_s, Series, lin, value, locator, Through}
use Rattle.poly.proofs.Series.{series, zero_s-at}
use Rattle.poly.proofs.Constants.{x_plus-neg}
use Rattle.poly.proofs.Bounds.{below-null, below-add, below-neg, below-scale, below-lin}
use Rattle.poly.proofs.Evaluation.{value-add, value-neg, value-scale, value-more, value-mul, value-one, value-x_plus}
use Rattle.poly.proofs.Degrees.{monic-locator}
use Rattle.poly.proofs.CoprimePowers.{Apart, distinct-apart, roots-zero, Distinct}

module _ {R : Ring} (L : RingLaws R) where
  open R use {Car, 𝟘, 𝟙, plus as ◌⊕◌, times as ◌⊗◌, neg as ⊖◌}

  infixl 65 ◌⊕◌
  infixl 70 ◌⊗◌
  infix 75 ⊖◌
  value-lin : (c b : Car) → value R c 2 (lin R b) ≡ c ⊕ ⊖ b
  value-lin c b = ap (value R c 2) (sym (x_plus-neg R b)) ∙ value-x_plus L c (⊖ b)

  pub value-locator : (c : Car) (n : ℕ) (a : ℕ → Car) → value R c (suc n) (locator R n a) ≡ prod R n (λ s. c ⊕ ⊖ (a s))
  value-locator c zero a = rw (prod-zero (Series R) (λ s. lin R (a s)), prod-zero R (λ s. c ⊕ ⊖ (a s))) (value-one L c)
  value-locator c (suc n) a =
      sym (value-more L c (suc (suc n)) (suc n + 2) (locator R (suc n) a) (monic-locator L (suc n) a).rest (omega arith))
      ∙ rw (
        prod-suc (Series R) n (λ s. lin R (a s)),
        value-mul L c (suc n) 2 (locator R n a) (lin R (a n)) (monic-locator L n a).rest (below-lin L
            (a n)),
        value-locator c n a,
        value-lin c (a n),
      )
      (sym (prod-suc R n (λ s. c ⊕ ⊖ (a s))))

  pub interpolant_unique : (n : ℕ) (a v : ℕ → Car) (g h : Seq R) → Apart R n a → Through R n a v g → Through R n a v h → g ≡ h
  interpolant_unique n a v g h apart tg th =
      difference-zero (series L) g h
      (roots-zero L n a (add_s R g (neg_s R h)) apart
      (below-add L {N = n} {f = g} {g = neg_s R h} tg.short (below-neg L {N = n} {f = h} th.short))
      (λ s l. value-add L (a s) n g (neg_s R h) ∙ ap₂ ◌⊕◌ (tg.hits s l) (value-neg L (a s) n h ∙ ap (λ (x : Car). ⊖ x) (th.hits s l))
      ∙ add-neg L (v s)))

module _ {F : Field} (Φ : FieldLaws F) where
  abbrev R : Ring
  R = F.ring

  abbrev L : RingLaws R
  L = Φ.ring

  open F.ring use {Car, 𝟘, 𝟙, plus as ◌⊕◌, times as ◌⊗◌, neg as ⊖◌}

  infixl 65 ◌⊕◌
  infixl 70 ◌⊗◌
  infix 75 ⊖◌
  -- the locator is zero at its own points and at no other
  locator-root : (n s : ℕ) (a : ℕ → Car) → s < n → value R (a s) (suc n) (locator R n a) ≡ 𝟘
  locator-root zero s a l = absurd (omega arith)
  locator-root (suc n) s a l =
      value-locator L (a s) (suc n) a ∙ prod-suc R n (λ r. a s ⊕ ⊖ (a r))
      ∙ go (ℕ_discrete s n) (λ k. sym (value-locator L (a s) n a) ∙ locator-root n s a k)
    where
      P : Car
      P = prod R n (λ r. a s ⊕ ⊖ (a r))

      go : Dec (s ≡ n) → (s < n → P ≡ 𝟘) → P ⊗ (a s ⊕ ⊖ (a n)) ≡ 𝟘
      go (yes e) ih = rw (e, add-neg L (a n)) (mul-zero L _)
      go (no e) ih = rw (ih (omega arith)) (zero-mul L _)

  pub locator-nonzero : (n : ℕ) (a : ℕ → Car) → Distinct R (suc n) a → value R (a n) (suc n) (locator R n a) ≢ 𝟘
  locator-nonzero n a inj z =
      let null =
      roots-zero L (suc n) a (locator R n a) (distinct-apart Φ (suc n) a inj) (monic-locator L n a).rest (λ s l. root s l (ℕ_discrete s n)) in
      Φ.one≢zero (sym (monic-locator L n a).top ∙ ap (λ (f : Seq R). f n) null ∙ zero_s-at R n)
    where
      root : (s : ℕ) → s < suc n → Dec (s ≡ n) → value R (a s) (suc n) (locator R n a) ≡ 𝟘
      root s l (yes e) = rw e z
      root s l (no e) = locator-root n s a (omega arith)

  module _ (n : ℕ) (a v : ℕ → Car) (h : Seq R) (c : Car) where
    abbrev e : Seq R
    e = locator R n a

    abbrev pub next : Seq R
    next = add_s R h (neg_s R (scale_s R c e))

    -- c times the locator makes up for what h is too large by at the new point
    pub through-next : Through R n a v h → c ⊗ value R (a n) (suc n) e ≡ value R (a n) n h ⊕ ⊖ (v n) → Through R (suc n) a v next
    through-next t mends =
        record {
          short = below-add L {N = suc n} {f = h} {g = neg_s R (scale_s R c e)} (λ i l. t.short i (omega arith))
              (below-neg L {N = suc n} {f = scale_s R c e} (below-scale L c (monic-locator L n a).rest));
          hits = λ s l. hits s l (ℕ_discrete s n);
        }
      where
        value-next : (x : Car) → value R x (suc n) next ≡ value R x n h ⊕ ⊖ (c ⊗ value R x (suc n) e)
        value-next x =
            value-add L x (suc n) h (neg_s R (scale_s R c e))
            ∙ ap₂ ◌⊕◌ (value-more L x n (suc n) h t.short (omega arith))
            (value-neg L x (suc n) (scale_s R c e) ∙ ap (λ (y : Car). ⊖ y) (value-scale L x (suc n) c e))

        last : (y z : Car) → y ⊕ ⊖ (y ⊕ ⊖ z) ≡ z
        last y z = ring L (y ∷ z ∷ []) (search reading depth 25) tt

        same : (y : Car) → y ⊕ ⊖ (c ⊗ 𝟘) ≡ y
        same y = ring L (y ∷ c ∷ []) (search reading depth 25) tt

        hits : (s : ℕ) → s < suc n → Dec (s ≡ n) → value R (a s) (suc n) next ≡ v s
        hits s l (yes q) = rw q (value-next (a n) ∙ rw mends (last (value R (a n) n h) (v n)))
        hits s l (no q) = value-next (a s) ∙ rw (locator-root n s a (omega arith), t.hits s (omega arith)) (same (v s))

  pub interpolate : (n : ℕ) (a v : ℕ → Car) → Distinct R n a → (h : Seq R) × Through R n a v h
  interpolate zero a v inj = (zero_s R, record { short = below-null L zero; hits = λ s l. absurd (omega arith) })
  interpolate (suc n) a v inj =
      let r = interpolate n a v (λ i j p q. inj i j (omega arith) (omega arith)) in
      let E = value R (a n) (suc n) (locator R n a) in
      let D = value R (a n) n r.0 ⊕ ⊖ (v n) in
      (next n a v r.0 (D ⊗ F.inv E), through-next n a v r.0 (D ⊗ F.inv E) r.1 (divided Φ D E (locator-nonzero n a inj)))
