-- Rows of which each leads at its own power of y: no two of the terms that lead in a combination are equal (proposition 12), so a nonzero
-- combination leads at the power of one of the rows, and is no lighter than that row.
use mathlib.Core.Path.{◌≡◌, refl, sym, ap, ap₂, ◌∙◌, fun_ext}
use mathlib.Core.Logic.{◌⊎◌, inl, inr}
use Prim.Native.Nat.{ℕ, zero, suc, ◌+◌, ◌-◌, ◌*◌, ◌≤◌, ◌<◌}
use native.Mathlib.Omega.{arith}
use native.Mathlib.Decide.{dec_le}
use Rattle.field.specs.Field.{Ring, RingLaws, sum, Field, FieldLaws}
use Rattle.field.proofs.RingLaws.{add-zero, zero-add, add_comm, mul-zero, zero-mul}
use Rattle.field.proofs.FieldLaws.{no-zero_divisor}
use Rattle.field.proofs.Sums.{sum-zero, sum-suc, sum-null}
use Rattle.poly.specs.Polynomials.{Seq, Series, add_s, scale_s, zero_s, Below}
use Rattle.poly.proofs.Series.{series, mul_s-sum}
use Rattle.poly.proofs.Degrees.{Leads, lead-mul, degree}
use Rattle.curves.specs.Curves.{Curve, Zero, Under, Lead, LeadsAt, x_times, Span}
use Rattle.curves.proofs.Leads.{under-mono, lead_unique, lead-nonzero}
use Rattle.curves.proofs.Spans.{x_times-zero}

module _ {F : Field} (Φ : FieldLaws F) where
  abbrev R : Ring
  R = F.ring

  abbrev L : RingLaws R
  L = Φ.ring

  open F.ring use {Car, 𝟘, plus as ◌⊕◌, times as ◌⊗◌}
  open Series (Series F.ring) use {plus as ◌⊞◌, 𝟘 as 𝟘₂}

  infixl 65 ◌⊕◌ ◌⊞◌
  infixl 70 ◌⊗◌
  -- a polynomial of degree d times a curve
  lead-x_times : {u w s d : ℕ} {q : Seq R} {Q : Curve R} → Leads R d q → Lead R u w s Q → Lead R u (d + w) s (x_times R q Q)
  unfolding scale_s
  lead-x_times {u} {w} {s} {d} {q} {Q} a p =
      let pw = p.weight in
      record {
        degree = d + p.degree;
        weight = omega arith;
        nonzero = λ z. p.nonzero (no-zero_divisor Φ (q d) (Q s p.degree) a.lead
            (sym (lead-mul L d p.degree q (Q s) a.rest (λ i l. p.rest s i (omega arith) (λ x. absurd (omega arith)))) ∙ z));
        rest = λ j e le f. mul_s-sum L q (Q j) e ∙ sum-null L (suc e) (λ i. q i ⊗ Q j (e - i)) (λ i l. go j e le f i l (dec_le i d));
      }
    where
      go : (j e : ℕ) → d + w ≤ e + u * j → (e + u * j ≤ d + w → suc s ≤ j) → (i : ℕ) → i < suc e → Dec (i ≤ d) → q i ⊗ Q j (e - i) ≡ 𝟘
      go j e le f i l (yes h) = rw (p.rest j (e - i) (omega arith) (λ x. f (omega arith))) (mul-zero L _)
      go j e le f i l (no h) = rw (a.rest i (omega arith)) (zero-mul L _)

  -- the larger of two leading terms is that of the sum
  lead-add : {u v t : ℕ} {P Q : Curve R} → Lead R u v t P → Under R u v t Q → Lead R u v t (P ⊞ Q)
  unfolding add_s
  lead-add {u} {v} {t} {P} {Q} p U =
      let pw = p.weight in
      let z : Q t p.degree ≡ 𝟘 = U t p.degree (omega arith) (λ _. omega arith) in
      record {
        degree = p.degree;
        weight = p.weight;
        nonzero = λ e. p.nonzero (sym (add-zero L (P t p.degree)) ∙ ap (λ (y : Car). P t p.degree ⊕ y) (sym z) ∙ e);
        rest = λ j e le f. ap₂ ◌⊕◌ (p.rest j e le f) (U j e le (λ x. let y = f x in omega arith)) ∙ add-zero L 𝟘;
      }

  zero-is : (Q : Curve R) → Zero R Q → Q ≡ 𝟘₂
  unfolding zero_s
  zero-is Q z = fun_ext (λ j. fun_ext (z j))

  zero-zero : Zero R 𝟘₂
  unfolding zero_s
  zero-zero j i = refl

  module _ (u : ℕ) (rows : ℕ → Curve R) where
    -- zero, or led at y^t by a term that is no lighter than row t; the powers t are of a kind
    abbrev pub Led : (ℕ → Type 0) → Curve R → Type 0
    Led Power Q = Zero R Q ⊎ ((v : ℕ) × (t : ℕ) × Power t × Lead R u v t Q × ((w : ℕ) → Lead R u w t (rows t) → w ≤ v))

    led-add : (n : ℕ) (P Q : Curve R) → Led (λ t. t < n) P → Led (λ t. t ≡ n) Q → Led (λ t. t < suc n) (P ⊞ Q)
    led-add n P Q (inl x) (inl y) = inl (rw (zero-is P x, zero-is Q y, add-zero (series (series L)) 𝟘₂) zero-zero)
    led-add n P Q (inl x) (inr (v, t, k, q, m)) = inr (v, t, omega arith, rw (zero-is P x, zero-add (series (series L)) Q) q, m)
    led-add n P Q (inr (v, t, k, p, m)) (inl y) = inr (v, t, omega arith, rw (zero-is Q y, add-zero (series (series L)) P) p, m)
    led-add n P Q (inr (v, t, k, p, m)) (inr (v', t', k', q, m')) = go (dec_le v v')
      where
        go : Dec (v ≤ v') → Led (λ t. t < suc n) (P ⊞ Q)
        go (yes h) =
            inr (
              v',
              t',
              omega arith,
              rw (add_comm (series (series L)) P Q) (lead-add q (under-mono R u v (suc t) v' t' P h (λ x. omega arith) p.rest)),
              m',
            )
        go (no h) = inr (v, t, omega arith, lead-add p (under-mono R u v' (suc t') v t Q (omega arith) (λ x. absurd (omega arith)) q.rest), m)

    led-x_times : (n N : ℕ) (q : Seq R) → Below R N q → LeadsAt R u n (rows n) → Led (λ t. t ≡ n) (x_times R q (rows n))
    led-x_times n N q h (w, p) = go (degree Φ N q h)
      where
        go : (q ≡ zero_s R) ⊎ ((d : ℕ) × Leads R d q) → Led (λ t. t ≡ n) (x_times R q (rows n))
        go (inl z) = inl (rw (z, x_times-zero L (rows n)) zero-zero)
        go (inr (d, l)) = inr (d + w, n, refl, lead-x_times l p, λ x k. let e = (lead_unique k p).0 in omega arith)

    led-sum : (n : ℕ) (q : ℕ → Seq R) → ((i : ℕ) → (N : ℕ) × Below R N (q i)) → ((i : ℕ) → i < n → LeadsAt R u i (rows i))
        → Led (λ t. t < n) (sum (Series (Series R)) n (λ i. x_times R (q i) (rows i)))
    led-sum zero q h own = inl (rw (sum-zero (Series (Series R)) (λ i. x_times R (q i) (rows i))) zero-zero)
    led-sum (suc n) q h own =
        rw (sum-suc (Series (Series R)) n (λ i. x_times R (q i) (rows i)))
        (led-add n (sum (Series (Series R)) n (λ i. x_times R (q i) (rows i))) (x_times R (q n) (rows n))
        (led-sum n q h (λ i l. own i (omega arith)))
        (led-x_times n (h n).0 (q n) (h n).1 (own n (omega arith))))

    module _ (n : ℕ) (own : (i : ℕ) → i < n → LeadsAt R u i (rows i)) {Q : Curve R} (s : Span R n rows Q) where
      pub span_led : Led (λ t. t < n) Q
      span_led = rw s.is (led-sum n s.factor s.finite own)

      -- proposition 12: a combination that leads at y^t is no lighter than row t
      pub span-lead : {v t : ℕ} → Lead R u v t Q → (t < n) × ((w : ℕ) → Lead R u w t (rows t) → w ≤ v)
      span-lead {v} {t} q = go span_led
        where
          go : Led (λ t. t < n) Q → (t < n) × ((w : ℕ) → Lead R u w t (rows t) → w ≤ v)
          go (inl z) = absurd (lead-nonzero q z)
          go (inr (v', t', k, p, m)) = let e = lead_unique p q in (rw e.1 at k, rw (e.0, e.1) at m)
