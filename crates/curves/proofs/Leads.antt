-- Leading terms: there is only one, and a bounded search finds it.
-- The search goes through the terms from the largest that may stand in the curve down, so the first that is not zero leads.
use mathlib.Core.Path.{◌≡◌}
use mathlib.Core.Logic.{◌≢◌, ◌⊎◌, inl, inr}
use Prim.Native.Nat.{ℕ, zero, suc, ◌+◌, ◌-◌, ◌*◌, ◌≤◌, ◌<◌, zero-le}
use native.Mathlib.Omega.{arith}
use native.Mathlib.Decide.{dec_le, dec_lt, ℕ_discrete}
use Rattle.field.specs.Field.{Ring, Field}
use Rattle.curves.specs.Curves.{Curve, Height, Zero, Under, Lead}

-- a term of weight w and power s of y is smaller than one of weight v and power t
abbrev pub Smaller : ℕ → ℕ → ℕ → ℕ → Type 0
Smaller w s v t = (w ≤ v) × (v ≤ w → s < t)

module _ (R : Ring) where
  open R use {𝟘}

  abbrev pub ZeroOrLeads : ℕ → Curve R → Type 0
  ZeroOrLeads u Q = Zero R Q ⊎ ((w : ℕ) × (s : ℕ) × Lead R u w s Q)

  pub under_smaller : (u w s : ℕ) (Q : Curve R) → Under R u w s Q → (j i : ℕ) → Q j i ≢ 𝟘 → Smaller (i + u * j) j w s
  under_smaller u w s Q U j i n = (one (dec_le (i + u * j) w), λ q. two q (dec_lt j s))
    where
      one : Dec (i + u * j ≤ w) → i + u * j ≤ w
      one (yes h) = h
      one (no h) = absurd (n (U j i (omega arith) (λ q. absurd (omega arith))))

      two : w ≤ i + u * j → Dec (j < s) → j < s
      two q (yes h) = h
      two q (no h) = absurd (n (U j i q (λ _. omega arith)))

  pub under-mono : (u w s v t : ℕ) (Q : Curve R) → w ≤ v → (v ≤ w → s ≤ t) → Under R u w s Q → Under R u v t Q
  under-mono u w s v t Q le st U j i l f = U j i (omega arith) (λ q. let a = f (omega arith) in let b = st (omega arith) in omega arith)

  -- one term more that is zero
  pub under_step : (u w s : ℕ) (Q : Curve R) → Under R u w (suc s) Q → ((i : ℕ) → i + u * s ≡ w → Q s i ≡ 𝟘) → Under R u w s Q
  under_step u w s Q U h j i le f = go (ℕ_discrete j s) (ℕ_discrete (i + u * j) w)
    where
      go : Dec (j ≡ s) → Dec (i + u * j ≡ w) → Q j i ≡ 𝟘
      go (yes q) (yes p) = rw q (h i (rw q at p))
      go (yes q) (no p) = U j i le (λ r. absurd (omega arith))
      go (no q) d = U j i le (λ r. let t = f r in omega arith)

module _ {R : Ring} {u w s : ℕ} {Q : Curve R} (p : Lead R u w s Q) where
  pub lead-nonzero : Zero R Q → ⊥
  lead-nonzero z = p.nonzero (z s p.degree)

  pub lead-degree : p.degree ≡ w - u * s
  lead-degree = let e = p.weight in omega arith

  -- a curve that is Q leads with the same term
  abbrev pub lead_of : {P : Curve R} → P ≡ Q → Lead R u w s P
  lead_of e =
      record {
        degree = p.degree;
        weight = p.weight;
        nonzero = λ z. p.nonzero (rw e at z);
        rest = λ j i le f. rw e (p.rest j i le f);
      }

  pub lead_smaller : (v t : ℕ) → Under R u v t Q → Smaller w s v t
  lead_smaller v t U = rw p.weight at (under_smaller R u v t Q U s p.degree p.nonzero)

  pub lead_unique : {v t : ℕ} → Lead R u v t Q → (w ≡ v) × (s ≡ t)
  lead_unique {v} {t} q =
      let a = lead_smaller v (suc t) q.rest in
      let b = rw q.weight at (under_smaller R u w (suc s) Q p.rest t q.degree q.nonzero) in
      let x = a.1 (omega arith) in
      let y = b.1 (omega arith) in
      (omega arith, omega arith)

  pub lead-within : (h : ℕ) → Height R h Q → s < h
  lead-within h H = go (dec_lt s h)
    where
      go : Dec (s < h) → s < h
      go (yes l) = l
      go (no l) = absurd (p.nonzero (H s p.degree (omega arith)))

  -- a bound of all weights bounds that of the leading term
  pub lead-light : (W : ℕ) → Under R u (suc W) zero Q → w ≤ W
  lead-light W U = let a = lead_smaller (suc W) zero U in go a (dec_le w W)
    where
      go : Smaller w s (suc W) zero → Dec (w ≤ W) → w ≤ W
      go a (yes l) = l
      go a (no l) = let x = a.1 (omega arith) in absurd (omega arith)

-- what the search finds: nothing, or a weight and a power of y. What is not needed stands in a `let`, so that it is not computed
pub data Sought : Type 0 where
  none : Sought
  found : ℕ → ℕ → Sought

unfoldable pub pick : {A B : Type 0} → Dec A → Dec B → Sought → Sought → Sought
pick (yes a) (yes b) hit miss = miss
pick (yes a) (no b) hit miss = hit
pick (no a) (yes b) hit miss = miss
pick (no a) (no b) hit miss = miss

module _ (F : Field) (u : ℕ) where
  open F.ring use {𝟘}

  -- at weight w, by falling powers of y, from s - 1 on
  unfoldable pub look : ℕ → Curve F.ring → Sought → ℕ → Sought
  look w Q more zero = more
  look w Q more (suc s) = let rest : Sought = look w Q more s in pick (dec_le (u * s) w) (F.same? (Q s (w - u * s)) 𝟘) (found w s) rest

  -- by falling weights, below the weight given; the curve has fewer than h powers of y
  unfoldable pub seek : ℕ → Curve F.ring → ℕ → Sought
  seek h Q zero = none
  seek h Q (suc w) = let more : Sought = seek h Q w in look w Q more h

  abbrev pub Right : Curve F.ring → Sought → Type 0
  Right Q none = Zero F.ring Q
  Right Q (found w s) = Lead F.ring u w s Q

module _ (F : Field) (u : ℕ) (Q : Curve F.ring) where
  open F.ring use {𝟘}

  look-right : (w : ℕ) (more : Sought) (s : ℕ) → Under F.ring u w s Q → (Under F.ring u w zero Q → Right F u Q more)
      → Right F u Q (look F u w Q more s)
  unfolding look pick
  look-right w more zero U k = k U
  look-right w more (suc s) U k = go (dec_le (u * s) w) (F.same? (Q s (w - u * s)) 𝟘) (λ z. look-right w more s z k)
    where
      go : (a : Dec (u * s ≤ w)) (b : Dec (Q s (w - u * s) ≡ 𝟘)) → (Under F.ring u w s Q → Right F u Q (look F u w Q more s))
          → Right F u Q (pick a b (found w s) (look F u w Q more s))
      go (yes a) (yes b) ih = ih (under_step F.ring u w s Q U (λ i q. let r : i ≡ w - u * s = omega arith in rw r b))
      go (yes a) (no b) ih = record { degree = w - u * s; weight = omega arith; nonzero = b; rest = U }
      go (no a) (yes b) ih = ih (under_step F.ring u w s Q U (λ i q. absurd (omega arith)))
      go (no a) (no b) ih = ih (under_step F.ring u w s Q U (λ i q. absurd (omega arith)))

  pub seek-right : (h w : ℕ) → Height F.ring h Q → Under F.ring u w zero Q → Right F u Q (seek F u h Q w)
  unfolding seek
  seek-right h zero H U = λ j i. U j i zero-le (λ _. zero-le)
  seek-right h (suc w) H U = look-right w (seek F u h Q w) h (λ j i le f. go j i le f (dec_lt w (i + u * j))) (λ z. seek-right h w H z)
    where
      go : (j i : ℕ) → w ≤ i + u * j → (i + u * j ≤ w → h ≤ j) → Dec (w < i + u * j) → Q j i ≡ 𝟘
      go j i le f (yes q) = U j i q (λ _. zero-le)
      go j i le f (no q) = H j i (f (omega arith))

  -- a leading term by computation
  pub lead-found : (h limit : ℕ) {w s : ℕ} → Height F.ring h Q → Under F.ring u limit zero Q → seek F u h Q limit ≡ found w s
      → Lead F.ring u w s Q
  lead-found h limit H U e = rw e at (seek-right h limit H U)

  -- a finite curve is zero or has a leading term
  pub lead? : (h limit : ℕ) → Height F.ring h Q → Under F.ring u limit zero Q → ZeroOrLeads F.ring u Q
  lead? h limit H U = go (seek F u h Q limit) (seek-right h limit H U)
    where
      go : (f : Sought) → Right F u Q f → ZeroOrLeads F.ring u Q
      go none z = inl z
      go (found w s) p = inr (w, s, p)
