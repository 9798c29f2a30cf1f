-- The numbers that a caller can get back (docs/RULES.md, sections 13 to 15). A job's table lists its refusals in order, each with its number
-- and with what makes it apply; the number given is that of the first one that applies, and 0 if none does.
--   Refusal                a line of a table: its number, and what makes it apply
--   First table number     number is the one to be given
--   NotListed p            1: p is no field size
--   BadCount p n           2: n below 3 or above p
--   BadDegree n k          4: k below 2 or above n - 1
--   BadHeights m l         5: m or l out of its range
--   TooLarge p xs          6: a point or symbol is p or more
--   Repeated xs            7: two points are equal
--   TooShort size room     9: a lent buffer is too short
use Rattle.std.specs.Prelude.{◌≡◌, false, ◌⊎◌, List, [], ◌∷◌, ℕ, ◌≤◌, ◌<◌, length, get_or}
use Rattle.field.specs.Symbols.{listed}
use Rattle.poly.specs.Limits.{multiplicity_most, height_most}

pub record Refusal : Type 1 where
  pub number : ℕ
  pub applies : Type 0

abbrev pub First : List Refusal → ℕ → Type 0
First [] number = number ≡ 0
First (x ∷ rest) number = (x.applies × (number ≡ x.number)) ⊎ ((x.applies → ⊥) × First rest number)

abbrev pub NotListed : ℕ → Type 0
NotListed p = listed p ≡ false

abbrev pub BadCount : ℕ → ℕ → Type 0
BadCount p n = (n < 3) ⊎ (p < n)

abbrev pub BadDegree : ℕ → ℕ → Type 0
BadDegree n k = (k < 2) ⊎ (n ≤ k)

abbrev pub BadHeights : ℕ → ℕ → Type 0
BadHeights m l = (m < 1) ⊎ ((multiplicity_most < m) ⊎ ((l < m) ⊎ (height_most < l)))

pub record TooLarge (p : ℕ) (xs : List ℕ) : Type 0 where
  pub place : ℕ
  pub inside : place < length xs
  pub large : p ≤ get_or xs place 0

pub record Repeated (xs : List ℕ) : Type 0 where
  pub first : ℕ
  pub second : ℕ
  pub apart : first < second
  pub inside : second < length xs
  pub same : get_or xs first 0 ≡ get_or xs second 0

abbrev pub TooShort : ℕ → List ℕ → Type 0
TooShort size room = length room < size
