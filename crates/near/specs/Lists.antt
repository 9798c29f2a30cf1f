-- The messages near a received word. A message is k symbols, constant first, that is, a polynomial of degree below k. All is said over
-- any field whose elements are numbered: in the field of size p the elements are symbol p 0, .., symbol p (p-1). Rules: section 12.
--   Task F                  what is asked: the word received at n points, messages of k symbols, t agreements; and the numbers of symbols
--   polynomial task x       the polynomial whose coefficients have the numbers x, constant first
--   Spelt p k x             x is k numbers below p
--   agreements task n g     at how many of the first n places g takes at the point the value received
--   Wanted task g           g has degree below k and at least t agreements
--   In x list               x is on the list
--   Before x y              where x and y first differ, from the constant up, x has the smaller number
--   Ascending list          each message is before all that follow it, so none is there twice
--   IsList task list        on the list are the messages wanted, all of them and no others, in ascending order
use Rattle.std.specs.Prelude.{◌≡◌, ◌⊎◌, ℕ, zero, suc, ◌+◌, ◌≤◌, ◌<◌, length, get_or}
use mathlib.Core.List.{List, [], ◌∷◌, Memᴰ}
use Rattle.field.specs.Field.{Field}
use Rattle.field.specs.Choices.{choose}
use Rattle.poly.specs.Polynomials.{Seq, Below, value}

pub record Task (F : Field) : Type 0 where
  pub p : ℕ
  pub element : ℕ → F.ring.Car
  pub n : ℕ
  pub point : ℕ → F.ring.Car
  pub received : ℕ → F.ring.Car
  pub k : ℕ
  pub t : ℕ

pub record Spelt (p k : ℕ) (x : List ℕ) : Type 0 where
  pub long : length x ≡ k
  pub small : (i : ℕ) → i < k → get_or x i 0 < p

abbrev pub In : List ℕ → List (List ℕ) → Type 0
In x list = Memᴰ x list

abbrev pub Before : List ℕ → List ℕ → Type 0
Before [] y = ⊥
Before (b ∷ x) [] = ⊥
Before (b ∷ x) (c ∷ y) = (b < c) ⊎ ((b ≡ c) × Before x y)

abbrev pub Ascending : List (List ℕ) → Type 0
Ascending [] = Unit
Ascending (x ∷ list) = ((y : List ℕ) → In y list → Before x y) × Ascending list

module _ {F : Field} (task : Task F) where
  abbrev pub polynomial : List ℕ → Seq F.ring
  polynomial x = λ i. task.element (get_or x i 0)

  unfoldable pub agreements : ℕ → Seq F.ring → ℕ
  agreements zero g = 0
  agreements (suc n) g = agreements n g + choose (F.same? (value F.ring (task.point n) task.k g) (task.received n)) 1 0

  pub record Wanted (g : Seq F.ring) : Type 0 where
    pub degree : Below F.ring task.k g
    pub agrees : task.t ≤ agreements task.n g

  pub record IsList (list : List (List ℕ)) : Type 0 where
    pub ascending : Ascending list
    pub spelt : (x : List ℕ) → In x list → Spelt task.p task.k x
    pub wanted : (x : List ℕ) → In x list → Wanted (polynomial x)
    pub all : (g : Seq F.ring) → Wanted g → (x : List ℕ) × In x list × (polynomial x ≡ g)
