-- The numbers of an accepted request: what they are when no refusal applies, that they are small enough to count with, and the most updates.
use mathlib.Core.Path.{◌≡◌, ap, ◌∙◌}
use mathlib.Core.Logic.{inl, inr}
use Prim.Native.Nat.{ℕ, zero, suc, ◌+◌, ◌-◌, ◌*◌, ◌≤◌, ◌<◌}
use native.Mathlib.Nat.{mul-le-mul, mul-le-mul_right, mul_comm, add-mul}
use native.Mathlib.Omega.{arith}
use Rattle.field.specs.Operations.{Listed}
use Rattle.poly.specs.Limits.{field_most, multiplicity_most, height_most, updates_most}
use Rattle.poly.specs.Table.{BadHeights}
use Rattle.poly.proofs.TableLaws.{not_unlisted, listed-passed}
use Rattle.curves.specs.Start.{total, formula}
use Rattle.curves.proofs.Formula.{total-le}
use Rattle.rows.specs.Bytes.{shape}
use Rattle.rows.specs.Jobs.{BadNote, size, count, degree, heights, row, shape_of}
use Rattle.rows.specs.Work.{Fine}
use Rattle.rows.specs.declared.Note.{Note}

pub record GoodHeights (m l : ℕ) : Type 0 where
  pub some : 1 ≤ m
  pub most : m ≤ multiplicity_most
  pub order : m ≤ l
  pub high : l ≤ height_most

pub good-heights : {m l : ℕ} → (BadHeights m l → ⊥) → GoodHeights m l
good-heights {m} {l} n =
    let a : m < 1 → ⊥ = λ h. n (inl h) in
    let b : multiplicity_most < m → ⊥ = λ h. n (inr (inl h)) in
    let c : l < m → ⊥ = λ h. n (inr (inr (inl h))) in
    let d : height_most < l → ⊥ = λ h. n (inr (inr (inr h))) in
    record { some = omega arith; most = omega arith; order = omega arith; high = omega arith }

pub fine-shape : {p n k m l : ℕ} → Listed p → n ≤ p → k < n → GoodHeights m l → Fine (shape p n k m l)
fine-shape {p} {n} {k} {m} {l} ps np kn h =
    let a = h.order in
    let b = h.high in
    let c = h.most in
    let mn : m * n ≤ m * field_most = mul-le-mul {n₁ = m} {m₁ = n} {n₂ = m} {m₂ = field_most} (omega arith) (omega arith) in
    let lu : (l - m) * (k - 1) ≤ (height_most - m) * 29 =
    mul-le-mul {n₁ = l - m} {m₁ = k - 1} {n₂ = height_most - m} {m₂ = 29} (omega arith) (omega arith) in
    let mu : m * (k - 1) ≤ m * n = mul-le-mul {n₁ = m} {m₁ = k - 1} {n₂ = m} {m₂ = n} (omega arith) (omega arith) in
    let parts : l ≡ m + (l - m) = omega arith in
    let whole : (k - 1) * l ≡ m * (k - 1) + (l - m) * (k - 1) = mul_comm (k - 1) l ∙ ap (λ (x : ℕ). x * (k - 1)) parts ∙ add-mul m (l - m) (k - 1) in
    record { size = ps; lift = omega arith; wide = omega arith; high = b; whole = omega arith }

pub record GoodNote (note : Note) : Type 0 where
  pub size : Listed note.p
  pub some : 3 ≤ note.n
  pub most : note.n ≤ note.p
  pub low : 2 ≤ note.k
  pub degree : note.k < note.n
  pub heights : GoodHeights note.m note.l
  pub row : 1 ≤ note.r
  pub last : note.r ≤ suc note.l

pub good-fine : {note : Note} → GoodNote note → Fine (shape_of note)
good-fine g = fine-shape g.size g.most g.degree g.heights

pub good-note : {note : Note} → (BadNote note → ⊥) → GoodNote note
good-note {note} n =
    let a : note.n < 3 → ⊥ = λ h. n (count (inl h)) in
    let b : note.p < note.n → ⊥ = λ h. n (count (inr h)) in
    let c : note.k < 2 → ⊥ = λ h. n (degree (inl h)) in
    let d : note.n ≤ note.k → ⊥ = λ h. n (degree (inr h)) in
    let e : note.r < 1 → ⊥ = λ h. n (row (inl h)) in
    let f : suc note.l < note.r → ⊥ = λ h. n (row (inr h)) in
    record {
      size = listed-passed (λ h. n (size h));
      some = omega arith;
      most = omega arith;
      low = omega arith;
      degree = omega arith;
      heights = good-heights (λ h. n (heights h));
      row = omega arith;
      last = omega arith;
    }

pub not_bad : {note : Note} → GoodNote note → BadNote note → ⊥
not_bad g (size n) = not_unlisted g.size n
not_bad g (count (inl h)) = omega (arith, g.some)
not_bad g (count (inr h)) = omega (arith, g.most)
not_bad g (degree (inl h)) = omega (arith, g.low)
not_bad g (degree (inr h)) = omega (arith, g.degree)
not_bad g (heights (inl h)) = omega (arith, g.heights)
not_bad g (heights (inr (inl h))) = omega (arith, g.heights)
not_bad g (heights (inr (inr (inl h)))) = omega (arith, g.heights)
not_bad g (heights (inr (inr (inr h)))) = omega (arith, g.heights)
not_bad g (row (inl h)) = omega (arith, g.row)
not_bad g (row (inr h)) = omega (arith, g.last)

-- the most is at n = 31, k = 2, m = 4, l = 8
pub formula-most : (n k m l : ℕ) → n ≤ field_most → 2 ≤ k → 1 ≤ m → m ≤ multiplicity_most → l ≤ height_most → formula n k m l ≤ updates_most
unfolding total
formula-most n k m l nh kh some mh lh = go m some mh (total-le (l - m) (height_most - m) (λ r. m + r) (omega arith))
  where
    most : (squares m rest T : ℕ) → rest ≤ T → (n - k) * squares + (n - k) * m * rest ≤ 29 * squares + 29 * m * T
    most squares m rest T h =
        let x = mul-le-mul_right {m = n - k} {n = 29} squares (omega arith) in
        let y = mul-le-mul {n₁ = (n - k) * m} {m₁ = rest} {n₂ = 29 * m} {m₂ = T} (mul-le-mul_right m (omega arith)) h in
        omega arith

    go : (m : ℕ) → 1 ≤ m → m ≤ multiplicity_most → total (l - m) (λ r. m + r) ≤ total (height_most - m) (λ r. m + r) → formula n k m l ≤ updates_most
    go zero s h t = absurd (omega arith)
    go (suc zero) s h t = let x = most 1 1 (total (l - 1) (λ r. 1 + r)) 35 t in omega arith
    go (suc (suc zero)) s h t = let x = most 5 2 (total (l - 2) (λ r. 2 + r)) 33 t in omega arith
    go (suc (suc (suc zero))) s h t = let x = most 14 3 (total (l - 3) (λ r. 3 + r)) 30 t in omega arith
    go (suc (suc (suc (suc zero)))) s h t = let x = most 30 4 (total (l - 4) (λ r. 4 + r)) 26 t in omega arith
    go (suc (suc (suc (suc (suc m))))) s h t = absurd (omega arith)
