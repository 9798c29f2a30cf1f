-- The formula is the sum of r b_r over the rows r = 1 to l, with b_r = min (r, m) (n - k); and it is not zero.
use mathlib.Core.Path.{◌≡◌, refl, sym, ap, ap₂, ◌∙◌}
use Prim.Native.Nat.{ℕ, zero, suc, ◌+◌, ◌-◌, ◌*◌, ◌≤◌, ◌<◌, min}
use native.Mathlib.Nat.{add-zero, add-suc, mul-le-mul}
use native.Mathlib.Decide.{dec_le}
use native.Mathlib.Omega.{arith}
use Rattle.curves.specs.Start.{total, formula}

total-suc : (n : ℕ) (f : ℕ → ℕ) → total (suc n) f ≡ total n f + f (suc n)
unfolding total
total-suc n f = refl

total_cong : (n : ℕ) (f g : ℕ → ℕ) → ((r : ℕ) → r ≤ n → f r ≡ g r) → total n f ≡ total n g
unfolding total
total_cong zero f g h = refl
total_cong (suc n) f g h = ap₂ ◌+◌ (total_cong n f g (λ r l. h r (omega arith))) (h (suc n) (omega arith))

total-mul : (c n : ℕ) (f : ℕ → ℕ) → total n (λ r. c * f r) ≡ c * total n f
unfolding total
total-mul c zero f = omega arith
total-mul c (suc n) f = let e = total-mul c n f in omega arith

total_split : (m n : ℕ) (f : ℕ → ℕ) → total (m + n) f ≡ total m f + total n (λ r. f (m + r))
unfolding total
total_split m zero f = rw (add-zero m) (sym (add-zero (total m f)))
total_split m (suc n) f = rw (add-suc m n, total-suc (m + n) f, total_split m n f) (omega arith)

pub formula-is : (n k m l : ℕ) → m ≤ l → total l (λ r. r * (min r m * (n - k))) ≡ formula n k m l
formula-is n k m l ml =
    ap (λ (x : ℕ). total x f) all
    ∙ total_split m (l - m) f
    ∙ ap₂ ◌+◌
    (total_cong m f (λ r. (n - k) * (r * r)) low ∙ total-mul (n - k) m (λ r. r * r))
    (total_cong (l - m) (λ r. f (m + r)) (λ r. (n - k) * m * (m + r)) high ∙ total-mul ((n - k) * m) (l - m) (λ r. m + r))
  where
    f : ℕ → ℕ
    f r = r * (min r m * (n - k))

    all : l ≡ m + (l - m)
    all = omega arith

    low : (r : ℕ) → r ≤ m → f r ≡ (n - k) * (r * r)
    low r le = let e : min r m ≡ r = omega arith in rw e (omega arith)

    high : (r : ℕ) → r ≤ l - m → f (m + r) ≡ (n - k) * m * (m + r)
    high r le = let e : min (m + r) m ≡ m = omega arith in rw e (omega arith)

pub total-le : (a b : ℕ) (f : ℕ → ℕ) → a ≤ b → total a f ≤ total b f
unfolding total
total-le a zero f h = let e : a ≡ 0 = omega arith in rw e (omega arith)
total-le a (suc b) f h = go (dec_le a b) (λ k. total-le a b f k)
  where
    go : Dec (a ≤ b) → (a ≤ b → total a f ≤ total b f) → total a f ≤ total (suc b) f
    go (yes k) more = let x = more k in omega arith
    go (no k) more = let e : a ≡ suc b = omega arith in rw e (omega arith)

pub formula_positive : (n k m l : ℕ) → k < n → 1 ≤ m → 0 < formula n k m l
unfolding total
formula_positive n k zero l kn h = absurd (omega arith)
formula_positive n k (suc m) l kn h =
    let x : 1 * 1 ≤ (n - k) * total (suc m) (λ r. r * r) =
    mul-le-mul {n₁ = 1} {m₁ = 1} {n₂ = n - k} {m₂ = total (suc m) (λ r. r * r)} (omega arith) (omega arith) in
    omega arith
