-- The smallest curve of a set: there is one at most, and of the curves that finished rows span it is the lightest row, made monic.
-- What making a curve monic does to it stands here too.
use mathlib.Core.Path.{◌≡◌, sym, ap, ap₂, ◌∙◌, fun_ext}
use mathlib.Core.Logic.{inl, inr, ◌↔◌}
use mathlib.Core.List.{List}
use Prim.Native.Nat.{ℕ, zero, suc, ◌*◌, ◌≤◌, ◌<◌}
use native.Mathlib.Omega.{arith}
use native.Mathlib.Decide.{dec_le, dec_lt}
use Rattle.field.specs.Field.{Ring, RingLaws, Field, FieldLaws}
use Rattle.field.proofs.RingLaws.{add-neg, mul-zero, mul_comm, difference-zero}
use Rattle.field.proofs.FieldLaws.{no-zero_divisor}
use Rattle.poly.specs.Polynomials.{Series, add_s, neg_s, mono}
use Rattle.poly.proofs.Series.{scale_s-at}
use Rattle.poly.proofs.Monomials.{delay-zero, mono-below}
use Rattle.curves.specs.Curves.{AtMost, Curve, HasHeight, Under, Lead, LeadsAt, x_times, Span, Smallest}
use Rattle.curves.specs.Turns.{Outcome}
use Rattle.curves.specs.Entry.{Sound}
use Rattle.curves.specs.Finish.{Lightest, monic}
use Rattle.curves.proofs.Promises.{Promised}
use Rattle.curves.proofs.Leads.{ZeroOrLeads, under_step, lead_unique, lead_smaller}
use Rattle.curves.proofs.Crossing.{x_times-mono}
use Rattle.curves.proofs.Spans.{span-row, span-add, span-x_times, span-neg}
use Rattle.curves.proofs.OwnPowers.{Led, span_led, span-lead}

-- the lightest of the rows so far, and one row more; of equal weights the earlier row has the smaller term
module _ {R : Ring} {u : ℕ} (rows : ℕ → Curve R) where
  -- row n, said of any row q that is row n
  lightest-last : {n v : ℕ} (w i : ℕ) → Lead R u v n (rows n) → AtMost w i v n → (q y : ℕ) → q ≡ n → Lead R u y q (rows q) → AtMost w i y q
  lightest-last w i p h q y e x = let a = (lead_unique p (rw e at x)).0 in rw (e, ← a) h

  pub lightest-one : {w : ℕ} → Lead R u w 0 (rows 0) → Lightest R u 0 rows 0 w
  lightest-one {w} p = record { inside = omega arith; lead = p; least = λ q y k x. lightest-last w 0 p (omega arith) q y (omega arith) x }

module _ {R : Ring} {u : ℕ} {rows : ℕ → Curve R} {n i w v : ℕ} (x : Lightest R u n rows i w) (p : Lead R u v (suc n) (rows (suc n))) where
  least-more : (j z : ℕ) → AtMost z j v (suc n) → ((q y : ℕ) → q ≤ n → Lead R u y q (rows q) → AtMost z j y q) → (q y : ℕ) → q ≤ suc n
      → Lead R u y q (rows q) → AtMost z j y q
  least-more j z top low q y m k = go (dec_le q n)
    where
      go : Dec (q ≤ n) → AtMost z j y q
      go (yes c) = low q y c k
      go (no c) = lightest-last rows z j p top q y (omega arith) k

  pub lightest-new : v < w → Lightest R u (suc n) rows (suc n) v
  lightest-new h =
      record {
        inside = omega arith;
        lead = p;
        least = least-more (suc n) v (omega arith) (λ q y k z. let e = (x.least q y k z).0 in (omega arith, λ f. absurd (omega arith)));
      }

  pub lightest-stays : w ≤ v → Lightest R u (suc n) rows i w
  lightest-stays h = let k = x.inside in record { inside = omega arith; lead = x.lead; least = least-more i w (h, λ f. omega arith) x.least }

-- the lightest row is only one
pub lightest_unique : {R : Ring} {u l : ℕ} {rows : ℕ → Curve R} {i w j v : ℕ} → Lightest R u l rows i w → Lightest R u l rows j v → (i ≡ j) × (w ≡ v)
lightest_unique {i = i} {w} {j} {v} p q =
    let a = p.least j v q.inside q.lead in
    let b = q.least i w p.inside p.lead in
    let a0 = a.0 in
    let b0 = b.0 in
    let a1 = a.1 (omega arith) in
    let b1 = b.1 (omega arith) in
    (omega arith, omega arith)

-- two smallest curves of a set weigh the same
pub weight_unique : {R : Ring} {u : ℕ} {Member : Curve R → Type 0} {P Q : Curve R} (p : Smallest R u Member P) (q : Smallest R u Member Q)
    → p.weight ≡ q.weight
weight_unique {P = P} {Q} p q =
    let a = (p.least Q q.member q.weight q.power q.lead).0 in
    let b = (q.least P p.member p.weight p.power p.lead).0 in
    omega arith

module _ {F : Field} (Φ : FieldLaws F) where
  abbrev R : Ring
  R = F.ring

  abbrev L : RingLaws R
  L = Φ.ring

  open F.ring use {Car, 𝟘, 𝟙, plus as ◌⊕◌, times as ◌⊗◌, neg as ⊖◌}
  open Series (Series F.ring) use {plus as ◌⊞◌, neg as ⊟◌}

  infixl 65 ◌⊕◌ ◌⊞◌
  infixl 70 ◌⊗◌
  infix 75 ⊖◌ ⊟◌
  pub monic-at : (s d : ℕ) (Q : Curve R) (j i : ℕ) → monic F s d Q j i ≡ F.inv (Q s d) ⊗ Q j i
  monic-at s d Q j i = scale_s-at R (F.inv (Q s d)) (Q j) i

  monic-null : (s d : ℕ) (Q : Curve R) (j i : ℕ) → Q j i ≡ 𝟘 → monic F s d Q j i ≡ 𝟘
  monic-null s d Q j i z = monic-at s d Q j i ∙ ap (λ (x : Car). F.inv (Q s d) ⊗ x) z ∙ mul-zero L _

  monic-times : (s d : ℕ) (Q : Curve R) → monic F s d Q ≡ x_times R (mono R (F.inv (Q s d)) 0) Q
  monic-times s d Q =
      fun_ext (λ j. fun_ext (λ i.
      let c = F.inv (Q s d) in
      monic-at s d Q j i ∙ sym (x_times-mono L c 0 Q j i ∙ ap (λ (x : Car). c ⊗ x) (delay-zero R (Q j) i))))

  -- a curve made monic leads with the same term, whose coefficient is 1; it is zero where it was, and as high
  module _ {u w s : ℕ} {Q : Curve R} (p : Lead R u w s Q) where
    abbrev x : Car
    x = Q s p.degree

    unit : x ⊗ F.inv x ≡ 𝟙
    unit = Φ.inverse x p.nonzero

    monic-top : monic F s p.degree Q s p.degree ≡ 𝟙
    monic-top = monic-at s p.degree Q s p.degree ∙ mul_comm L (F.inv x) x ∙ unit

    pub monic-lead : (q : Lead R u w s (monic F s p.degree Q)) × (monic F s p.degree Q s q.degree ≡ 𝟙)
    monic-lead = (
      record {
        degree = p.degree;
        weight = p.weight;
        nonzero = λ z. Φ.one≢zero (sym monic-top ∙ z);
        rest = λ j i le f. monic-null s p.degree Q j i (p.rest j i le f);
      },
      monic-top,
    )

    pub monic-weight : {v t : ℕ} → Lead R u v t (monic F s p.degree Q) → v ≡ w
    monic-weight q = (lead_unique q monic-lead.0).0

    null-monic : (j i : ℕ) → monic F s p.degree Q j i ≡ 𝟘 → Q j i ≡ 𝟘
    null-monic j i z =
        no-zero_divisor Φ (F.inv x) (Q j i) (λ y. Φ.one≢zero (sym unit ∙ ap (λ (t : Car). x ⊗ t) y ∙ mul-zero L x))
        (sym (monic-at s p.degree Q j i) ∙ z)

    pub monic-height : {j : ℕ} → HasHeight R Q j → HasHeight R (monic F s p.degree Q) j
    monic-height {j} h =
        record {
          above = λ i e k. monic-null s p.degree Q i e (h.above i e k);
          some = let (e, n) = h.some in (e, λ z. n (null-monic j e z));
        }

  module _ {u W l : ℕ} {rows : ℕ → Curve R} (g : Sound R u W l (suc l) rows) where
    own : (i : ℕ) → i < suc l → LeadsAt R u i (rows i)
    own i k = g.own i (omega arith) k

    pub smallest-lightest : {i w : ℕ} (h : Lightest R u l rows i w) → Smallest R u (Span R (suc l) rows) (monic F i h.lead.degree (rows i))
    smallest-lightest {i} {w} h =
        let p = monic-lead h.lead in
        let k = h.inside in
        record {
          member =
              rw (monic-times i h.lead.degree (rows i))
              (span-x_times L 1 (mono R (F.inv (rows i i h.lead.degree)) 0) (mono-below L _ 0) (span-row L i (omega arith)));
          weight = w;
          power = i;
          lead = p.0;
          leading_one = p.1;
          least = λ Q s v t q. go v t (span-lead Φ u rows (suc l) own s q);
        }
      where
        go : (v t : ℕ) → (t < suc l) × ((x : ℕ) → Lead R u x t (rows t) → x ≤ v) → AtMost w i v t
        go v t (k, m) =
            let o = own t k in
            let x = m o.0 o.1 in
            let y = h.least t o.0 (omega arith) o.1 in
            let y0 = y.0 in
            (omega arith, λ z. y.1 (omega arith))

    lightest-to : (n : ℕ) → n ≤ l → (i : ℕ) × (w : ℕ) × Lightest R u n rows i w
    lightest-to zero h = let o = own 0 (omega arith) in (0, o.0, lightest-one rows o.1)
    lightest-to (suc n) h = go (lightest-to n (omega arith)) (own (suc n) (omega arith))
      where
        go : (i : ℕ) × (w : ℕ) × Lightest R u n rows i w → LeadsAt R u (suc n) (rows (suc n)) → (i : ℕ) × (w : ℕ) × Lightest R u (suc n) rows i w
        go (i, w, x) (v, p) = two (dec_lt v w)
          where
            two : Dec (v < w) → (i : ℕ) × (w : ℕ) × Lightest R u (suc n) rows i w
            two (yes k) = (suc n, v, lightest-new x p k)
            two (no k) = (i, w, lightest-stays x p (omega arith))

    pub lightest_exists : (i : ℕ) × (w : ℕ) × Lightest R u l rows i w
    lightest_exists = lightest-to l (omega arith)

  -- a set with all differences, of curves that are zero or lead somewhere, has one smallest curve at most
  pub smallest_unique : {u : ℕ} {Member : Curve R → Type 0} → ((P Q : Curve R) → Member P → Member Q → Member (P ⊞ ⊟ Q))
      → ((Q : Curve R) → Member Q → ZeroOrLeads R u Q)
      → {P Q : Curve R} → Smallest R u Member P → Smallest R u Member Q → P ≡ Q
  unfolding add_s neg_s
  smallest_unique {u} {Member} minus leads {P} {Q} p q = go (leads (P ⊞ ⊟ Q) difference)
    where
      difference : Member (P ⊞ ⊟ Q)
      difference = minus P Q p.member q.member

      -- both lead with the same term
      same : (q.weight ≡ p.weight) × (q.power ≡ p.power)
      same =
          let a = p.least Q q.member q.weight q.power q.lead in
          let b = q.least P p.member p.weight p.power p.lead in
          let a0 = a.0 in
          let b0 = b.0 in
          let a1 = a.1 (omega arith) in
          let b1 = b.1 (omega arith) in
          (omega arith, omega arith)

      under : Under R u p.weight p.power (P ⊞ ⊟ Q)
      under =
          under_step R u p.weight p.power (P ⊞ ⊟ Q)
          (λ j i le f. ap₂ (λ (x y : Car). x ⊕ ⊖ y) (p.lead.rest j i le f) (let e = same.0 in let d = same.1 in
          q.lead.rest j i (omega arith) (λ x. let y = f (omega arith) in omega arith)) ∙ add-neg L 𝟘)
          (λ i x.
          let a = p.lead.weight in
          let b = q.lead.weight in
          let e = same.0 in
          let d : u * q.power ≡ u * p.power = ap (λ n. u * n) same.1 in
          let k : i ≡ p.lead.degree = omega arith in
          let m : i ≡ q.lead.degree = omega arith in
          ap₂ (λ (x y : Car). x ⊕ ⊖ y) (ap (P p.power) k ∙ p.leading_one) (ap₂ Q (sym same.1) m ∙ q.leading_one) ∙ add-neg L 𝟙)

      go : ZeroOrLeads R u (P ⊞ ⊟ Q) → P ≡ Q
      go (inl z) = fun_ext (λ j. fun_ext (λ i. difference-zero L (P j i) (Q j i) (z j i)))
      go (inr (w, s, x)) =
          let a = p.least (P ⊞ ⊟ Q) difference w s x in
          let b = lead_smaller x p.weight p.power under in
          let a0 = a.0 in
          let b0 = b.0 in
          let a1 = a.1 (omega arith) in
          let b1 = b.1 (omega arith) in
          absurd (omega arith)

  -- the curves that finished rows span have one
  pub smallest_spanned : {u W l : ℕ} {rows : ℕ → Curve R} → Sound R u W l (suc l) rows → {P Q : Curve R} → Smallest R u (Span R (suc l) rows) P
      → Smallest R u (Span R (suc l) rows) Q → P ≡ Q
  smallest_spanned {u} {l = l} {rows = rows} g =
      smallest_unique (λ P Q p q. span-add L p (span-neg L q)) (λ Q s. go Q (span_led Φ u rows (suc l) (own g) s))
    where
      go : (Q : Curve R) → Led Φ u rows (λ t. t < suc l) Q → ZeroOrLeads R u Q
      go Q (inl z) = inl z
      go Q (inr (v, t, k, p, m)) = inr (v, t, p)

  -- of two sets with the same curves the smallest is the same
  pub smallest-same : {u : ℕ} {Member Other : Curve R → Type 0} {P : Curve R} → ((Q : Curve R) → Member Q ↔ Other Q) → Smallest R u Member P
      → Smallest R u Other P
  smallest-same {P = P} same p =
      record {
        member = (same P).0 p.member;
        weight = p.weight;
        power = p.power;
        lead = p.lead;
        leading_one = p.leading_one;
        least = λ Q m. p.least Q ((same Q).1 m);
      }

  -- the work from fresh rows to its end: the lightest row made monic is the smallest of the curves that the rows at the start span
  pub promised-smallest : {u W l : ℕ} {b : ℕ → ℕ} {start : ℕ → Curve R} {list : List ℕ} {o : Outcome F} → Promised F u W l b start list o
      → o.row ≡ suc l
      → {i w : ℕ} (h : Lightest R u l o.rows i w) → Smallest R u (Span R (suc l) start) (monic F i h.lead.degree (o.rows i))
  promised-smallest p e h = smallest-same (λ Q. let s = p.kept.same Q in (s.1, s.0)) (smallest-lightest (rw e at p.kept.sound) h)
