-- Numbers and lists of numbers: a text is one number, or one list, at most, and a list ends its first number at its first comma.
use mathlib.Core.Path.{◌≡◌, refl, sym, ap, ◌∙◌}
use mathlib.Core.List.{List, [], ◌∷◌, ◌++◌}
use Prim.Native.Nat.{ℕ, zero, suc, ◌-◌, ◌≤◌, ◌<◌}
use native.Mathlib.Omega.{arith}
use lib.ListN.{length, get_or}
use Rattle.text.specs.Requests.{number_of, Number, Numbers, Optional}
use Rattle.text.specs.Requests.Numbers.{single, more}
use Rattle.text.specs.Requests.Optional.{nothing, given}
use Rattle.std.proofs.Common.{Option, Some, None}
use Rattle.text.specs.Reading.{Free, Meant}
use Rattle.text.proofs.Seeking.{free-cons, free-join, free_not, free-parts}

-- a number of one digit
pub digit : (b : ℕ) → 48 ≤ b → b ≤ 57 → Number (b ∷ []) (b - 48)
unfolding number_of
digit b low high = record { some = omega arith; few = omega arith; are_digits = first; is = omega arith; small = omega arith }
  where
    first : (i : ℕ) → i < 1 → (48 ≤ get_or (b ∷ []) i 0) × (get_or (b ∷ []) i 0 ≤ 57)
    first zero h = (low, high)
    first (suc i) h = absurd (omega arith)

-- commas and line feeds come before the digits
pub number-free : {text : List ℕ} {n : ℕ} (b : ℕ) → b < 48 → Number text n → Free b text
number-free b h r i k e = omega (arith, r.are_digits i k)

pub number-same : {text : List ℕ} {n m : ℕ} → Number text n → Number text m → n ≡ m
number-same p q = p.is ∙ sym q.is

pub numbers-some : {text ns : List ℕ} → Numbers text ns → 1 ≤ length ns
numbers-some (single r) = omega arith
numbers-some (more r s) = omega arith

pub numbers-free : {text ns : List ℕ} → Numbers text ns → Free 10 text
numbers-free (single r) = number-free 10 (omega arith) r
numbers-free (more {first = first} {rest = rest} r s) =
    free-join 10 first (44 ∷ rest) (number-free 10 (omega arith) r) (free-cons 10 44 rest (omega arith) (numbers-free s))

-- with no comma
pub numbers-last : {text ns : List ℕ} → Free 44 text → Numbers text ns → (n : ℕ) × (ns ≡ n ∷ []) × Number text n
numbers-last f (single {n = n} r) = (n, refl, r)
numbers-last f (more {first = first} {rest = rest} r s) = absurd (free_not 44 first rest f)

-- with the first comma after `first`
pub record Parted (first rest ns : List ℕ) : Type 0 where
  pub n : ℕ
  pub others : List ℕ
  pub is : ns ≡ n ∷ others
  pub head : Number first n
  pub tail : Numbers rest others

pub numbers-more : {text ns : List ℕ} (first rest : List ℕ) → Free 44 first → text ≡ first ++ 44 ∷ rest → Numbers text ns → Parted first rest ns
numbers-more first rest f e (single r) = absurd (free_not 44 first rest (rw e at (number-free 44 (omega arith) r)))
numbers-more first rest f e (more {first = first'} {rest = rest'} {n = n} {ns = ns} r s) =
    let p = free-parts 44 first' first rest' rest (number-free 44 (omega arith) r) f e in
    record { n = n; others = ns; is = refl; head = rw p.0 at r; tail = rw p.1 at s }

pub numbers-same : {text ns ms : List ℕ} → Numbers text ns → Numbers text ms → ns ≡ ms
numbers-same (single r) s =
    let q = numbers-last (number-free 44 (omega arith) r) s in
    ap (λ (x : ℕ). x ∷ []) (number-same r q.2) ∙ sym q.1
numbers-same (more {first = first} {rest = rest} {n = n} {ns = ns} r s) q =
    let p = numbers-more first rest (number-free 44 (omega arith) r) refl q in
    let e : ns ≡ p.others = numbers-same s p.tail in
    let h : n ≡ p.n = number-same r p.head in
    cc p.is

pub optional-same : (other : ℕ) {text : List ℕ} {n m : ℕ} → Optional other text n → Optional other text m → n ≡ m
optional-same other nothing nothing = refl
optional-same other nothing (given r) = absurd (omega (arith, r.some))
optional-same other (given r) nothing = absurd (omega (arith, r.some))
optional-same other (given r) (given s) = number-same r s

pub optional-free : (other : ℕ) {text : List ℕ} {n : ℕ} → Optional other text n → Free 10 text
optional-free other nothing i h e = omega arith
optional-free other (given r) i h e = number-free 10 (omega arith) r i h e

pub optional-empty : (text : List ℕ) (other : ℕ) → length text ≡ 0 → Optional other text other
optional-empty [] other h = nothing
optional-empty (x ∷ text) other h = absurd (omega arith)

pub optional-given : {text : List ℕ} {other n : ℕ} → (length text ≡ 0 → ⊥) → Optional other text n → Number text n
optional-given h nothing = absurd (h refl)
optional-given h (given r) = r

-- a text that is not empty
pub optional_number : (text : List ℕ) (other : ℕ) (found : Option ℕ) → (length text ≡ 0 → ⊥) → Meant found (Number text)
    → Meant found (Optional other text)
optional_number text other None h f = λ n r. f n (optional-given h r)
optional_number text other (Some n) h f = given f
