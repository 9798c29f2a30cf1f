-- A word of which the first symbols came out wrong, and no other, is disturbed in that many places.
use mathlib.Core.Path.{◌≡◌, refl, sym, subst, ◌∙◌}
use mathlib.Core.List.{List}
use Prim.Native.Nat.{ℕ, zero, suc, ◌≤◌, ◌<◌}
use native.Mathlib.Decide.{ℕ_discrete, dec_lt}
use native.Mathlib.Omega.{arith}
use lib.ListN.{length, get_or, set, length-set}
use lib.Seq.{get_or-set_same, get_or-set_other}
use Rattle.field.proofs.Choices.{choose_yes, choose_no}
use Rattle.poly.specs.Lent.{Untouched}
use Rattle.departures.specs.Departures.{departure_field}
use Rattle.departures.specs.Hearing.{disturbed}

-- the first s symbols came out as others, and the rest as they were
pub record Wrong (s : ℕ) (before after : List ℕ) : Type 0 where
  pub count : disturbed s before after ≡ s
  pub symbols : (q : ℕ) → q < s → get_or after q 0 < departure_field
  pub rest : Untouched s before after

pub wrong-none : (xs : List ℕ) → Wrong 0 xs xs
wrong-none xs = record { count = refl; symbols = λ q h. absurd (omega arith); rest = record { long = refl; same = λ q h. refl } }

-- what was counted is as it was, where only later places are written
disturbed-same : (n : ℕ) (xs ys zs : List ℕ) → ((q : ℕ) → q < n → get_or zs q 0 ≡ get_or ys q 0)
    → disturbed n xs zs ≡ disturbed n xs ys
disturbed-same zero xs ys zs same = refl
disturbed-same (suc n) xs ys zs same = rw (same n (omega arith), disturbed-same n xs ys zs (λ q h. same q (omega arith))) refl

-- one symbol more
pub wrong-more : (s v : ℕ) {xs ys : List ℕ} → Wrong s xs ys → s < length ys → (v ≡ get_or ys s 0 → ⊥) × (v < departure_field)
    → Wrong (suc s) xs (set ys s v)
wrong-more s v {xs} {ys} w inside (other, small) =
    let before = disturbed-same s xs ys (set ys s v) (λ q h. get_or-set_other ys s q v 0 (λ e. omega arith)) in
    let is = get_or-set_same ys s v 0 inside in
    let differs = choose_no {A = ℕ} (ℕ_discrete (get_or xs s 0) (get_or (set ys s v) s 0)) 0 1
    (λ e. other (sym is ∙ sym e ∙ sym (w.rest.same s (omega arith)))) in
    record {
      count = omega (arith, before, w.count, differs);
      symbols = λ q h. symbol q h (ℕ_discrete q s);
      rest =
          record {
            long = length-set ys s v ∙ w.rest.long;
            same = λ q h. get_or-set_other ys s q v 0 (λ e. omega arith) ∙ w.rest.same q (omega arith);
          };
    }
  where
    symbol : (q : ℕ) → q < suc s → Dec (q ≡ s) → get_or (set ys s v) q 0 < departure_field
    symbol q h (yes e) = rw (e, get_or-set_same ys s v 0 inside) small
    symbol q h (no n) = rw (get_or-set_other ys s q v 0 n) (w.symbols q (omega arith))

-- and none of the symbols after them is disturbed
pub wrong-disturbed : {s : ℕ} {xs ys : List ℕ} → Wrong s xs ys → (n : ℕ) → s ≤ n → disturbed n xs ys ≡ s
wrong-disturbed {s} w zero h = omega arith
wrong-disturbed {s} {xs} {ys} w (suc n) h = go (dec_lt n s) (λ k. wrong-disturbed w n k)
  where
    go : Dec (n < s) → (s ≤ n → disturbed n xs ys ≡ s) → disturbed (suc n) xs ys ≡ s
    go (yes k) before = let e : s ≡ suc n = omega arith in subst (λ (k : ℕ). disturbed k xs ys ≡ s) e w.count
    go (no k) before =
        let same = choose_yes {A = ℕ} (ℕ_discrete (get_or xs n 0) (get_or ys n 0)) 0 1 (sym (w.rest.same n (omega arith))) in
        omega (arith, before (omega arith), same)
