-- While row r is the current one: the coefficient of y^r in row r keeps its leading term through every update.
-- Of the rows before it: with a the coefficient of y^r in row i and v its weight, deg a - v < D - w, or the two are equal and s < i.
use mathlib.Core.Path.{◌≡◌, sym, ap, ◌∙◌}
use mathlib.Core.Logic.{◌≢◌, inl, inr}
use Prim.Native.Nat.{ℕ, suc, ◌+◌, ◌-◌, ◌*◌, ◌≤◌, ◌<◌, max}
use native.Mathlib.Omega.{arith}
use native.Mathlib.Decide.{dec_lt, ℕ_discrete}
use Rattle.field.specs.Field.{Ring, RingLaws, Field, FieldLaws}
use Rattle.field.proofs.RingLaws.{add-zero, mul-zero, neg-zero}
use Rattle.poly.specs.Polynomials.{Below}
use Rattle.poly.proofs.Monomials.{delay, delay-at, delay-null}
use Rattle.curves.specs.Curves.{Curve, Lead}
use Rattle.curves.specs.Turns.{Due, ratio, updated}
use Rattle.curves.specs.Entry.{Sound}
use Rattle.curves.proofs.Promises.{Fresh}
use Rattle.curves.proofs.Leads.{Smaller, ZeroOrLeads, under_smaller, lead_unique, lead?}
use Rattle.curves.proofs.Crossing.{cross-at}
use Rattle.curves.proofs.Updates.{Swapped, update_r, update-s, update-other, update_smaller, update_led}
use Rattle.curves.proofs.Entry.{sound-below}

-- row r leads at (w, s), and its coefficient of y^r has the degree D
pub record Stage (R : Ring) (u r w s D : ℕ) (rows : ℕ → Curve R) : Type 0 where
  pub lead : Lead R u w s (rows r)
  pub top : rows r r D ≢ R.𝟘
  pub past : Below R (suc D) (rows r r)
  pub slack : (i v : ℕ) → i < r → Lead R u v i (rows i) → (e : ℕ) → D + v ≤ e + w → (e + w ≤ D + v → i ≤ s) → rows i r e ≡ R.𝟘

-- w - u r - D is not negative, and positive if s < r
pub stage-potential : {R : Ring} {u r w s D : ℕ} {rows : ℕ → Curve R} → Stage R u r w s D rows → (D + u * r ≤ w) × (s < r → D + u * r < w)
stage-potential {R} {u} {r} {w} {s} {D} {rows} t = let f = under_smaller R u w (suc s) (rows r) t.lead.rest r D t.top in
    (f.0, λ k. go f k (dec_lt (D + u * r) w))
  where
    go : (D + u * r ≤ w) × (w ≤ D + u * r → r < suc s) → s < r → Dec (D + u * r < w) → D + u * r < w
    go f k (yes h) = h
    go f k (no h) = let x = f.0 in let y = f.1 (omega arith) in absurd (omega arith)

module _ {F : Field} (Φ : FieldLaws F) {u W l r : ℕ} {rows : ℕ → Curve F.ring} (g : Sound F.ring u W l r rows) where
  abbrev R : Ring
  R = F.ring

  abbrev L : RingLaws R
  L = Φ.ring

  open F.ring use {Car, 𝟘}

  -- the next row becomes the current one: the rows before it have no y^(r+1)
  pub stage-begins : {c : ℕ} → suc r ≤ l → (f : Fresh R u W c (suc r) (rows (suc r))) → (w : ℕ) × (s : ℕ) × Stage R u (suc r) w s f.degree rows
  stage-begins h f = go (lead? F u (rows (suc r)) (suc (suc r)) (suc W) f.height f.within)
    where
      go : ZeroOrLeads R u (rows (suc r)) → (w : ℕ) × (s : ℕ) × Stage R u (suc r) w s f.degree rows
      go (inl z) = absurd (f.top (z (suc r) f.degree))
      go (inr (w, s, p)) = (
        w,
        s,
        record {
          lead = p;
          top = f.top;
          past = f.past;
          slack = λ i v k q e x y. g.low i (omega arith) (omega arith) (suc r) e (omega arith);
        },
      )

  module _ {w s v D : ℕ} (d : Due R u l r rows w s v) (t : Stage R u r w s D rows) where
    abbrev new : ℕ → Curve R
    new = updated F d

    top-stays : (e : ℕ) → D ≤ e → new r r (v - w + e) ≡ rows r r e
    top-stays e le =
        let k = sound-below g d in
        let c : Car = ratio F s d.lead.degree d.below.degree (rows r) (rows s) in
        let z : delay R (w - v) (rows s r) (v - w + e) ≡ 𝟘 =
        delay-null R (w - v) (v - w + e) (rows s r) (λ i x. t.slack s v k d.below i (omega arith) (λ y. omega arith)) in
        ap (λ (Q : Curve R). Q r (v - w + e)) (update_r Φ d)
        ∙ cross-at L (v - w) (rows r) c (w - v) (rows s) r (v - w + e)
        ∙ rw (delay-at R (v - w) e (rows r r), z, mul-zero L c, neg-zero L) (add-zero L _)

    -- what is asked of a row before r, of one that was not changed and of the old row r in the place of row s
    module _ (w' s' : ℕ) (f : Smaller w' s' (max w v) s) where
      slack-stays : (i x : ℕ) → i < r → Lead R u x i (rows i) → (e : ℕ) → v - w + D + x ≤ e + w' → (e + w' ≤ v - w + D + x → i ≤ s') → rows i r e ≡ 𝟘
      slack-stays i x k p e le h =
          let a = f.0 in t.slack i x k p e (omega arith) (λ y. let b = h (omega arith) in let z = f.1 (omega arith) in omega arith)

      slack_swaps : (e : ℕ) → v - w + D + w ≤ e + w' → (e + w' ≤ v - w + D + w → s ≤ s') → rows r r e ≡ 𝟘
      slack_swaps e le h = go (dec_lt D e)
        where
          go : Dec (D < e) → rows r r e ≡ 𝟘
          go (yes k) = t.past e k
          go (no k) = let a = f.0 in let y = h (omega arith) in let z = f.1 (omega arith) in absurd (omega arith)

      slack-next : (i x : ℕ) → i < r → Lead R u x i (new i) → (e : ℕ) → v - w + D + x ≤ e + w' → (e + w' ≤ v - w + D + x → i ≤ s') → new i r e ≡ 𝟘
      slack-next i x k p e le h = go (ℕ_discrete i s) (update-s Φ d)
        where
          go : Dec (i ≡ s) → Swapped R w v (rows r) (rows s) (new s) → new i r e ≡ 𝟘
          go (no n) q = rw (update-other Φ d i (omega arith) n) (slack-stays i x k (rw (update-other Φ d i (omega arith) n) at p) e le h)
          go (yes n) (inl (y, q)) = rw (n, q) (slack-stays s x (omega arith) (rw (n, q) at p) e le (rw n at h))
          go (yes n) (inr (y, q)) =
              let o : x ≡ w = (lead_unique (rw (n, q) at p) t.lead).0 in
              rw (n, q) (slack_swaps e (rw o at le) (rw (n, o) at h))

    pub stage-next : (w' : ℕ) × (s' : ℕ) × Stage R u r w' s' (v - w + D) new × Smaller w' s' (max w v) s
    stage-next = let h = d.inside in let k = sound-below g d in
        go (update_led Φ d (suc r) (g.low r h (omega arith)) (g.low s (omega arith) (omega arith)))
      where
        top : new r r (v - w + D) ≢ 𝟘
        top z = t.top (sym (top-stays D (omega arith)) ∙ z)

        past : Below R (suc (v - w + D)) (new r r)
        past e le = let x : v - w + (e - (v - w)) ≡ e = omega arith in
            ap (new r r) (sym x) ∙ top-stays (e - (v - w)) (omega arith) ∙ t.past (e - (v - w)) (omega arith)

        go : ZeroOrLeads R u (new r) → (w' : ℕ) × (s' : ℕ) × Stage R u r w' s' (v - w + D) new × Smaller w' s' (max w v) s
        go (inl z) = absurd (top (z r (v - w + D)))
        go (inr (w', s', p)) = let f = update_smaller Φ d p in (w', s', record { lead = p; top = top; past = past; slack = slack-next w' s' f }, f)
