-- One update: the new row r is zero or leads with a smaller term, row s leads at y^s again, and the span stays.
use mathlib.Core.Path.{◌≡◌, refl, sym, ap, ◌∙◌}
use mathlib.Core.Logic.{◌≢◌, ◌⊎◌, inl, inr}
use Prim.Native.Nat.{ℕ, zero, suc, ◌+◌, ◌-◌, ◌≤◌, ◌<◌, max, min}
use native.Mathlib.Omega.{arith}
use native.Mathlib.Decide.{dec_le, ℕ_discrete}
use Rattle.field.specs.Field.{Ring, RingLaws, Field, FieldLaws}
use Rattle.field.specs.Choices.{choose, put}
use Rattle.field.proofs.RingLaws.{zero-mul, mul_assoc, mul_comm, mul-one}
use Rattle.field.proofs.Choices.{put-same, put-other}
use Rattle.curves.specs.Curves.{Curve, Height, Under, Lead, Span}
use Rattle.curves.specs.Turns.{cross, Due, ratio, update, updated}
use Rattle.curves.proofs.Leads.{Smaller, ZeroOrLeads, under-mono, lead_smaller, lead?}
use Rattle.curves.proofs.Crossing.{cross-height, cross-under}
use Rattle.curves.proofs.Spans.{span-row, span_trans, span-cross, span_uncross-left, span_uncross-right, Same}

-- the new row s: it stays, or the old row r takes its place
abbrev pub Swapped : (R : Ring) → ℕ → ℕ → Curve R → Curve R → Curve R → Type 0
Swapped R w v P Q new = ((v ≤ w) × (new ≡ Q)) ⊎ ((w < v) × (new ≡ P))

module _ {F : Field} (Φ : FieldLaws F) where
  abbrev R : Ring
  R = F.ring

  abbrev L : RingLaws R
  L = Φ.ring

  open F.ring use {Car, 𝟘, times as ◌⊗◌}

  infixl 70 ◌⊗◌
  -- the ratio of the leading coefficients
  abbrev over : {u s w v : ℕ} {P Q : Curve R} → Lead R u w s P → Lead R u v s Q → Car
  over {s = s} {P = P} {Q} p q = ratio F s p.degree q.degree P Q

  ratio-is : {u s w v : ℕ} {P Q : Curve R} (p : Lead R u w s P) (q : Lead R u v s Q) → over p q ⊗ Q s q.degree ≡ P s p.degree
  unfolding ratio
  ratio-is {s = s} {P = P} {Q} p q =
      let x : Car = Q s q.degree in
      rw (mul_assoc L (P s p.degree) (F.inv x) x, mul_comm L (F.inv x) x, Φ.inverse x q.nonzero) (mul-one L _)

  module _ {u l r w s v : ℕ} {rows : ℕ → Curve R} (d : Due R u l r rows w s v) where
    abbrev new : ℕ → Curve R
    new = updated F d

    abbrev c : Car
    c = over d.lead d.below

    -- the two lead at the same power of y, so their degrees differ as their weights do
    fall : (d.below.degree - d.lead.degree ≡ v - w) × (d.lead.degree - d.below.degree ≡ w - v)
    fall = let a = d.lead.weight in let b = d.below.weight in (omega arith, omega arith)

    pub update_r : new r ≡ cross R (v - w) (rows r) c (w - v) (rows s)
    unfolding update
    update_r = put-same r _ _ ∙ rw (fall.0, fall.1) refl

    pub update-other : (i : ℕ) → i ≢ r → i ≢ s → new i ≡ rows i
    unfolding update
    update-other i n m = put-other r _ _ i n ∙ put-other s _ rows i m

    pub update-s : Swapped R w v (rows r) (rows s) (new s)
    unfolding update
    update-s = go (dec_le d.below.degree d.lead.degree)
      where
        first : Curve R
        first = cross R (d.below.degree - d.lead.degree) (rows r) c (d.lead.degree - d.below.degree) (rows s)

        go : (t : Dec (d.below.degree ≤ d.lead.degree))
            → Swapped R w v (rows r) (rows s) (put r first (put s (choose t (rows s) (rows r)) rows) s)
        go (yes h) = let a = d.lead.weight in let b = d.below.weight in inl (omega arith, put-other r _ _ s d.other ∙ put-same s _ rows)
        go (no h) = let a = d.lead.weight in let b = d.below.weight in inr (omega arith, put-other r _ _ s d.other ∙ put-same s _ rows)

    pub update-lead : Lead R u (min w v) s (new s)
    update-lead = go update-s
      where
        go : Swapped R w v (rows r) (rows s) (new s) → Lead R u (min w v) s (new s)
        go (inl (h, e)) = let m : min w v ≡ v = omega arith in rw (m, e) d.below
        go (inr (h, e)) = let m : min w v ≡ w = omega arith in rw (m, e) d.lead

    pub update-height : (h : ℕ) → Height R h (rows r) → Height R h (rows s) → Height R h (new r)
    update-height h p q = rw update_r (cross-height L (v - w) (rows r) c (w - v) (rows s) h p q)

    -- all terms of the new row r are smaller than the larger of the two that cancel
    pub update-under : Under R u (max w v) s (new r)
    update-under =
        let m : max w v ≡ v - w + w = omega arith in
        rw (update_r, m) (cross-under L (v - w) (rows r) c (w - v) (rows s) d.lead d.below (omega arith) (ratio-is d.lead d.below))

    pub update_smaller : {w' s' : ℕ} → Lead R u w' s' (new r) → Smaller w' s' (max w v) s
    update_smaller p = lead_smaller p (max w v) s update-under

    pub update_led : (h : ℕ) → Height R h (rows r) → Height R h (rows s) → ZeroOrLeads R u (new r)
    update_led h p q =
        lead? F u (new r) h (suc (max w v)) (update-height h p q)
        (under-mono R u (max w v) s (suc (max w v)) zero (new r) (omega arith) (λ x. absurd (omega arith)) update-under)

    -- the new rows are in the span of the old ones, and the old ones in that of the new ones
    module _ (n : ℕ) (rn : r < n) (sn : s < n) where
      new_spanned : (i : ℕ) → i < n → Span R n rows (new i)
      new_spanned i k = go (ℕ_discrete i r) (ℕ_discrete i s) update-s
        where
          go : Dec (i ≡ r) → Dec (i ≡ s) → Swapped R w v (rows r) (rows s) (new s) → Span R n rows (new i)
          go (yes e) t x = rw (e, update_r) (span-cross L (v - w) c (w - v) (span-row L r rn) (span-row L s sn))
          go (no e) (no t) x = rw (update-other i e t) (span-row L i k)
          go (no e) (yes t) (inl (h, x)) = rw (t, x) (span-row L s sn)
          go (no e) (yes t) (inr (h, x)) = rw (t, x) (span-row L r rn)

      c≢0 : c ≢ 𝟘
      c≢0 e = d.lead.nonzero (sym (ratio-is d.lead d.below) ∙ ap (λ (x : Car). x ⊗ rows s s d.below.degree) e ∙ zero-mul L _)

      old_spanned : (i : ℕ) → i < n → Span R n new (rows i)
      old_spanned i k = go (ℕ_discrete i r) (ℕ_discrete i s) update-s
        where
          at_r : (a b : ℕ) → v - w ≡ a → w - v ≡ b → Span R n new (cross R a (rows r) c b (rows s))
          at_r a b p q = rw (update_r, p, q) at (span-row L {n = n} {rows = new} r rn)

          at-s : (Q : Curve R) → new s ≡ Q → Span R n new Q
          at-s Q e = rw e at (span-row L {n = n} {rows = new} s sn)

          go : Dec (i ≡ r) → Dec (i ≡ s) → Swapped R w v (rows r) (rows s) (new s) → Span R n new (rows i)
          go (no e) (no t) x = rw (update-other i e t) at (span-row L {n = n} {rows = new} i k)
          go (yes e) t (inl (h, x)) = rw e (span_uncross-left L (rows r) c (w - v) (rows s) (at_r 0 (w - v) (omega arith) refl) (at-s (rows s) x))
          go (yes e) t (inr (h, x)) = rw e (at-s (rows r) x)
          go (no e) (yes t) (inl (h, x)) = rw t (at-s (rows s) x)
          go (no e) (yes t) (inr (h, x)) =
              rw t (span_uncross-right L (v - w) (rows r) c (F.inv c) (rows s) (Φ.inverse c c≢0) (at_r (v - w) 0 refl (omega arith))
              (at-s (rows r) x))

      pub update-same : Same R n rows new
      update-same Q = (span_trans L n rows old_spanned, span_trans L n new new_spanned)
