-- The curve of demand 2: the starting rows generate the curves of demand 2, a run from them to its end finds the smallest of these,
-- and there is no other.
use mathlib.Core.Path.{◌≡◌}
use mathlib.Core.Logic.{◌↔◌}
use mathlib.Core.List.{List, [], ◌∷◌}
use Prim.Native.Nat.{ℕ, suc, ◌+◌, ◌-◌, ◌*◌, ◌≤◌, ◌<◌, min}
use native.Mathlib.Omega.{arith}
use Rattle.field.specs.Field.{Field, FieldLaws}
use Rattle.poly.specs.Polynomials.{Seq, Through, locator}
use Rattle.poly.proofs.Interpolation.{interpolate}
use Rattle.poly.proofs.CoprimePowers.{Distinct}
use Rattle.curves.specs.Curves.{Curve, Span, Smallest, Passing}
use Rattle.curves.specs.Start.{start_row, total}
use Rattle.curves.specs.Turns.{Outcome}
use Rattle.curves.specs.Entry.{Sound}
use Rattle.curves.specs.Finish.{Lightest, monic}
use Rattle.curves.proofs.Promises.{allowed, Fresh, Run, Promised}
use Rattle.curves.proofs.Spans.{span-row, span_trans}
use Rattle.curves.proofs.Runs.{run-promised, run-begins}
use Rattle.curves.proofs.Least.{smallest_spanned, smallest-same, promised-smallest, lightest_exists}
use Rattle.curves.proofs.Generated.{start-generates, start-passes}
use Rattle.curves.proofs.StartRows.{start-fresh}

-- rows at which a run may begin, and the curves that they generate
pub record Begins (F : Field) (u W l : ℕ) (b : ℕ → ℕ) (Member : Curve F.ring → Type 0) (rows : ℕ → Curve F.ring) : Type 0 where
  pub fresh : (i : ℕ) → i ≤ l → Fresh F.ring u W (b i) i (rows i)
  pub generates : (Q : Curve F.ring) → Span F.ring (suc l) rows Q ↔ Member Q

module _ {F : Field} (Φ : FieldLaws F) {u W l : ℕ} {b : ℕ → ℕ} {Member : Curve F.ring → Type 0} where
  -- only the rows up to l matter
  pub begins-same : {rows new : ℕ → Curve F.ring} → ((i : ℕ) → i ≤ l → new i ≡ rows i) → Begins F u W l b Member rows
      → Begins F u W l b Member new
  begins-same {rows} {new} same g =
      record {
        fresh = λ i h. rw (same i h) (g.fresh i h);
        generates = λ Q. (
          λ s. (g.generates Q).0 (span_trans Φ.ring (suc l) new (λ i h. rw (same i (omega arith)) (span-row Φ.ring i h)) s),
          λ p. span_trans Φ.ring (suc l) rows (λ i h. rw (same i (omega arith)) at (span-row Φ.ring {n = suc l} {rows = new} i h))
              ((g.generates Q).1 p),
        );
      }

  module _ {start : ℕ → Curve F.ring} (g : Begins F u W l b Member start) {list : List ℕ} {o : Outcome F} (run : Run F u l list start 1 o) where
    pub promised : Promised F u W l b start list o
    promised = run-promised Φ g.fresh run

    pub run-generates : (Q : Curve F.ring) → Span F.ring (suc l) o.rows Q ↔ Member Q
    run-generates Q = let s = promised.kept.same Q in (λ x. (g.generates Q).0 (s.1 x), λ x. s.0 ((g.generates Q).1 x))

    module _ (end : o.row ≡ suc l) where
      pub run-smallest : {i w : ℕ} (h : Lightest F.ring u l o.rows i w) → Smallest F.ring u Member (monic F i h.lead.degree (o.rows i))
      run-smallest h = smallest-same Φ g.generates (promised-smallest Φ promised end h)

      sound : Sound F.ring u W l (suc l) o.rows
      sound = rw end at promised.kept.sound

      pub run_unique : (P Q : Curve F.ring) → Smallest F.ring u Member P → Smallest F.ring u Member Q → P ≡ Q
      run_unique P Q p q = smallest_spanned Φ sound (smallest-same Φ back p) (smallest-same Φ back q)
        where
          back : (A : Curve F.ring) → Member A ↔ Span F.ring (suc l) o.rows A
          back A = let e = run-generates A in (e.1, e.0)

      pub run-lightest : (i : ℕ) × (w : ℕ) × Lightest F.ring u l o.rows i w
      run-lightest = lightest_exists Φ sound

module _ {F : Field} (Φ : FieldLaws F) {n k m l : ℕ} {a v : ℕ → F.ring.Car} (points : Distinct F.ring n a) (low : 0 < k) (degree : k < n)
    (ml : m ≤ l) where
  pub begins-start : {h : Seq F.ring} → Through F.ring n a v h
      → Begins F (k - 1) (m * n + (l - m) * (k - 1)) l (λ r. min r m * (n - k)) (Passing F.ring n m l a v)
      (start_row F.ring m (locator F.ring n a) h)
  begins-start thr =
      record { fresh = start-fresh Φ m thr k l low degree ml; generates = λ Q. (start-passes Φ.ring thr ml, start-generates Φ points thr ml) }

  -- the curve of demand 2 exists, and it is the only one
  pub passing-curve_exists : (Q : Curve F.ring) × Smallest F.ring (k - 1) (Passing F.ring n m l a v) Q
      × ((P : Curve F.ring) → Smallest F.ring (k - 1) (Passing F.ring n m l a v) P → P ≡ Q)
  unfolding allowed
  passing-curve_exists =
      let (h, thr) = interpolate Φ n a v points in
      let g = begins-start thr in
      let bound : ℕ = total l (λ r. r * (min r m * (n - k))) in
      let (o, run) = run-begins Φ g.fresh (bound ∷ []) in
      let end = (promised Φ g run).finished (omega arith) (omega arith) in
      let (i, w, lightest) = run-lightest Φ g run end in
      let s = run-smallest Φ g run end lightest in
      (_, s, λ P p. run_unique Φ g run end P _ p s)
