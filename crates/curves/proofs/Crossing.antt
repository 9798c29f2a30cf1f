-- x^a P - c x^b Q, coefficient by coefficient: what stands in it, and that leading terms at the same power of y cancel.
use mathlib.Core.Path.{◌≡◌, ap, ap₂, ◌∙◌}
use mathlib.Core.List.{[], ◌∷◌}
use Prim.Native.Nat.{ℕ, ◌+◌}
use native.Mathlib.Omega.{arith}
use Rattle.field.specs.Field.{Ring, RingLaws}
use Rattle.field.proofs.RingLaws.{add-zero, mul-zero, neg-zero}
use Rattle.field.proofs.RingTactic.{ring}
use Rattle.poly.specs.Polynomials.{add_s, scale_s, mono}
use Rattle.poly.proofs.Series.{readings}
use Rattle.poly.proofs.Monomials.{delay, delay-at, delay-null, mono-mul}
use Rattle.curves.specs.Curves.{Curve, Height, Under, Lead, x_times}
use Rattle.curves.specs.Turns.{cross}
use Rattle.curves.proofs.Leads.{under_step}

module _ {R : Ring} (L : RingLaws R) where
  open R use {Car, 𝟘, 𝟙, plus as ◌⊕◌, times as ◌⊗◌, neg as ⊖◌}

  infixl 65 ◌⊕◌
  infixl 70 ◌⊗◌
  infix 75 ⊖◌
  pub x_times-mono : (c : Car) (d : ℕ) (Q : Curve R) (j i : ℕ) → x_times R (mono R c d) Q j i ≡ c ⊗ delay R d (Q j) i
  unfolding scale_s
  x_times-mono c d Q j i = mono-mul L c d (Q j) i

  module _ (a : ℕ) (P : Curve R) (c : Car) (b : ℕ) (Q : Curve R) where
    pub cross-at : (j i : ℕ) → cross R a P c b Q j i ≡ delay R a (P j) i ⊕ ⊖ (c ⊗ delay R b (Q j) i)
    unfolding cross add_s
    cross-at j i =
        ap₂ ◌⊕◌ (x_times-mono 𝟙 a P j i) (x_times-mono (⊖ c) b Q j i)
        ∙ ring L (c ∷ delay R a (P j) i ∷ delay R b (Q j) i ∷ []) (search readings depth 25) tt

    pub cross-null : (j i : ℕ) → ((e : ℕ) → a + e ≡ i → P j e ≡ 𝟘) → ((e : ℕ) → b + e ≡ i → Q j e ≡ 𝟘) → cross R a P c b Q j i ≡ 𝟘
    cross-null j i p q = rw (cross-at j i, delay-null R a i (P j) p, delay-null R b i (Q j) q, mul-zero, neg-zero) (add-zero L 𝟘)

    pub cross-height : (h : ℕ) → Height R h P → Height R h Q → Height R h (cross R a P c b Q)
    cross-height h HP HQ j i l = cross-null j i (λ e q. HP j e l) (λ e q. HQ j e l)

    -- both lead at y^s, and the leading terms cancel
    pub cross-under : {u w v s : ℕ} (p : Lead R u w s P) (q : Lead R u v s Q) → a + w ≡ b + v → c ⊗ Q s q.degree ≡ P s p.degree
        → Under R u (a + w) s (cross R a P c b Q)
    cross-under {u} {w} {v} {s} p q m r =
        under_step R u (a + w) s (cross R a P c b Q)
        (λ j i le f. cross-null j i (λ e x. p.rest j e (omega arith) (λ y. f (omega arith)))
        (λ e x. q.rest j e (omega arith) (λ y. f (omega arith))))
        (λ i x.
        let pw = p.weight in
        let qw = q.weight in
        let k : i ≡ a + p.degree = omega arith in
        let l : i ≡ b + q.degree = omega arith in
        cross-at s i
        ∙ ap₂ (λ (x y : Car). x ⊕ ⊖ (c ⊗ y)) (ap (delay R a (P s)) k ∙ delay-at R a p.degree (P s))
        (ap (delay R b (Q s)) l ∙ delay-at R b q.degree (Q s))
        ∙ rw (← r) (ring L (c ∷ Q s q.degree ∷ []) (search readings depth 25) tt))
