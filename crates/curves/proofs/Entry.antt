-- What a turn asks of the rows at entry holds when the current row moves on, and after an update that leaves row r nonzero; and it holds of
-- rows of which it cannot be denied.
use mathlib.Core.Path.{◌≡◌, refl}
use mathlib.Core.Logic.{◌≢◌, ◌⊎◌, inl, inr}
use mathlib.Core.HLevel.{dec→stable}
use Prim.Native.Nat.{ℕ, zero, suc, ◌≤◌, ◌<◌, max, min}
use native.Mathlib.Omega.{arith}
use native.Mathlib.Decide.{ℕ_discrete}
use Rattle.field.specs.Field.{Ring, Field, FieldLaws}
use Rattle.curves.specs.Curves.{Curve, Height, Zero, Under, LeadsAt}
use Rattle.curves.specs.Turns.{Due, updated}
use Rattle.curves.specs.Entry.{Sound}
use Rattle.curves.proofs.Leads.{ZeroOrLeads, under-mono, lead_unique, lead-within, lead-light, lead?}
use Rattle.curves.proofs.Updates.{Swapped, update-s, update-other, update-lead, update-height, update-under}

module _ {R : Ring} {u W l r : ℕ} {rows : ℕ → Curve R} (g : Sound R u W l r rows) where
  pub sound-rises : LeadsAt R u r (rows r) → Sound R u W l (suc r) rows
  sound-rises p =
      record {
        light = g.light;
        nonzero = g.nonzero;
        low = λ i k m j e x. low i k m (ℕ_discrete i (suc r)) j e x;
        high = λ i k m. g.high i k (omega arith);
        own = λ i k m. own i k m (ℕ_discrete i r);
      }
    where
      low : (i : ℕ) → i ≤ l → i ≤ suc r → Dec (i ≡ suc r) → Height R (suc (suc r)) (rows i)
      low i k m (yes e) j x y = g.high i k (omega arith) j x (omega arith)
      low i k m (no e) j x y = g.low i k (omega arith) j x (omega arith)

      own : (i : ℕ) → i ≤ l → i < suc r → Dec (i ≡ r) → LeadsAt R u i (rows i)
      own i k m (yes e) = rw e p
      own i k m (no e) = g.own i k (omega arith)

  pub sound-below : {w s v : ℕ} → Due R u l r rows w s v → s < r
  sound-below d = let h = d.inside in let k = d.other in let x = lead-within d.lead (suc r) (g.low r h (omega arith)) in omega arith

module _ {F : Field} (Φ : FieldLaws F) {u W l r : ℕ} {rows : ℕ → Curve F.ring} (g : Sound F.ring u W l r rows) where
  abbrev R : Ring
  R = F.ring

  pub sound-update : {w s v : ℕ} (d : Due R u l r rows w s v) → (Zero R (updated F d r) → ⊥) → Sound R u W l r (updated F d)
  sound-update {w} {s} {v} d n =
      record {
        light = λ i k. light i k (ℕ_discrete i r);
        nonzero = λ i k. nonzero i k (ℕ_discrete i r);
        low = λ i k m. low i k m (ℕ_discrete i r);
        high = λ i k m. let x = old i k (omega arith) in high i k m x.0 x.2 x.3;
        own = λ i k m. own i k m (ℕ_discrete i s);
      }
    where
      new : ℕ → Curve R
      new = updated F d

      sr : s < r
      sr = sound-below g d

      inside : r ≤ l
      inside = d.inside

      -- a new row other than row r is an old one
      old : (i : ℕ) → i ≤ l → i ≢ r → (k : ℕ) × (k ≤ l) × (new i ≡ rows k) × ((k ≡ i) ⊎ ((k ≡ r) × (i < r)))
      old i k m = go (ℕ_discrete i s) (update-s Φ d)
        where
          go : Dec (i ≡ s) → Swapped R w v (rows r) (rows s) (new s) → (k : ℕ) × (k ≤ l) × (new i ≡ rows k) × ((k ≡ i) ⊎ ((k ≡ r) × (i < r)))
          go (no e) x = (i, k, update-other Φ d i m e, inl refl)
          go (yes e) (inl (h, x)) = (i, k, rw e x, inl refl)
          go (yes e) (inr (h, x)) = (r, inside, rw e x, inr (refl, omega (arith, sr)))

      light : (i : ℕ) → i ≤ l → Dec (i ≡ r) → Under R u (suc W) zero (new i)
      light i k (no e) = let x = old i k e in rw x.2 (g.light x.0 x.1)
      light i k (yes e) =
          let a = lead-light d.lead W (g.light r inside) in
          let b = lead-light d.below W (g.light s (omega (arith, sr, inside))) in
          rw e (under-mono R u (max w v) s (suc W) zero (new r) (omega arith) (λ x. absurd (omega arith)) (update-under Φ d))

      nonzero : (i : ℕ) → i ≤ l → Dec (i ≡ r) → Zero R (new i) → ⊥
      nonzero i k (no e) = let x = old i k e in rw x.2 (g.nonzero x.0 x.1)
      nonzero i k (yes e) = rw e n

      low : (i : ℕ) → i ≤ l → i ≤ r → Dec (i ≡ r) → Height R (suc r) (new i)
      low i k m (yes e) = rw e (update-height Φ d (suc r) (g.low r inside (omega arith)) (g.low s (omega (arith, sr, inside)) (omega (arith, sr))))
      low i k m (no e) = let x = old i k e in rw x.2 (g.low x.0 x.1 (up x.0 x.3))
        where
          up : (k : ℕ) → (k ≡ i) ⊎ ((k ≡ r) × (i < r)) → k ≤ r
          up k (inl p) = omega arith
          up k (inr p) = omega arith

      high : (i : ℕ) → i ≤ l → r < i → (k : ℕ) → new i ≡ rows k → (k ≡ i) ⊎ ((k ≡ r) × (i < r)) → Height R (suc i) (new i)
      high i k m h e (inl p) = rw (e, p) (g.high i k m)
      high i k m h e (inr p) = absurd (omega arith)

      own : (i : ℕ) → i ≤ l → i < r → Dec (i ≡ s) → LeadsAt R u i (new i)
      own i k m (yes e) = rw e (min w v, update-lead Φ d)
      own i k m (no e) = rw (update-other Φ d i (omega arith) e) (g.own i k m)

-- rows that may not be refused may enter: the test asks for equations, for denials and for leading terms, which a search finds
module _ (F : Field) {u W l r : ℕ} {rows : ℕ → Curve F.ring} (kept : (Sound F.ring u W l r rows → ⊥) → ⊥) where
  -- an equation that soundness brings holds
  stays : {i j e : ℕ} → (Sound F.ring u W l r rows → rows i j e ≡ F.ring.𝟘) → rows i j e ≡ F.ring.𝟘
  stays f = dec→stable (F.same? _ _) (λ n. kept (λ s. n (f s)))

  pub sound_stable : Sound F.ring u W l r rows
  sound_stable =
      record {
        light = λ i h j e a b. stays (λ s. s.light i h j e a b);
        nonzero = λ i h z. kept (λ s. s.nonzero i h z);
        low = λ i h k j e a. stays (λ s. s.low i h k j e a);
        high = λ i h k j e a. stays (λ s. s.high i h k j e a);
        own = λ i h k.
            own i h k
            (lead? F u (rows i) (suc r) (suc W) (λ j e a. stays (λ s. s.low i h (omega arith) j e a))
            (λ j e a b. stays (λ s. s.light i h j e a b)));
      }
    where
      own : (i : ℕ) → i ≤ l → i < r → ZeroOrLeads F.ring u (rows i) → LeadsAt F.ring u i (rows i)
      own i h k (inl z) = absurd (kept (λ s. s.nonzero i h z))
      own i h k (inr (w, t, p)) = let e : t ≡ i = dec→stable (ℕ_discrete t i) (λ n. kept (λ s. n (lead_unique p (s.own i h k).1).1)) in
          (w, rw e at p)
