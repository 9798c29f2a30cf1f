-- A table fixes the number that it gives; and what is known where a refusal does not apply.
use mathlib.Core.Path.{◌≡◌, refl, sym, subst, ◌∙◌}
use mathlib.Core.Logic.{◌⊎◌, inl, inr, ⊎_elim}
use mathlib.Core.Bool.{Bool, true, false, true≢false}
use mathlib.Core.List.{List, [], ◌∷◌, ◌++◌}
use Prim.Native.Nat.{ℕ, zero, suc, ◌<◌, ◌≤◌}
use native.Mathlib.Decide.{dec_lt}
use native.Mathlib.Omega.{arith}
use lib.Dec.{T}
use lib.ListN.{get_or, take, drop}
use Rattle.field.specs.Symbols.{listed}
use Rattle.field.specs.Operations.{Listed}
use Rattle.field.proofs.SymbolLaws.{is-listed}
use Rattle.poly.specs.Table.{Refusal, First, NotListed, TooLarge, BadCount, BadDegree}
use Rattle.poly.specs.Buffers.{Decided, AllBelow}

pub first_determined : (table : List Refusal) (m n : ℕ) → First table m → First table n → m ≡ n
first_determined [] m n e d = e ∙ sym d
first_determined (x ∷ rest) m n (inl (here, e)) (inl (also, d)) = e ∙ sym d
first_determined (x ∷ rest) m n (inl (here, e)) (inr (not, f)) = absurd (not here)
first_determined (x ∷ rest) m n (inr (not, g)) (inl (here, d)) = absurd (not here)
first_determined (x ∷ rest) m n (inr (not, g)) (inr (nor, f)) = first_determined rest m n g f

abbrev pub Numbered : List Refusal → Type 0
Numbered [] = Unit
Numbered (x ∷ rest) = (0 < x.number) × Numbered rest

-- a table gives 0 exactly where none of its refusals applies
abbrev pub Passed : List Refusal → Type 0
Passed [] = Unit
Passed (x ∷ rest) = (x.applies → ⊥) × Passed rest

pub first-passed : (table : List Refusal) {number : ℕ} → Numbered table → First table number → number ≡ 0 → Passed table
first-passed [] k f z = tt
first-passed (x ∷ rest) k (inl (here, e)) z = let h = k.0 in absurd (omega arith)
first-passed (x ∷ rest) k (inr (not, f)) z = (not, first-passed rest k.1 f z)

pub passed-first : (table : List Refusal) → Passed table → First table 0
passed-first [] n = refl
passed-first (x ∷ rest) (not, n) = inr (not, passed-first rest n)

-- a line that does not apply, and what the rest of the table gives
infixr 20 ◌⊳◌
pub ◌⊳◌ : {Applies Given Rest : Type 0} → (Applies → ⊥) → Rest → (Applies × Given) ⊎ ((Applies → ⊥) × Rest)
◌⊳◌ not rest = inr (not, rest)

-- a table's first n refusals give a number, which is the table's; or they give 0, and then the rest of it does
pub first-stops : (n : ℕ) (table : List Refusal) (number : ℕ) → First (take n table) number → (number ≡ 0 → ⊥) → First table number
first-stops zero table number e other = absurd (other e)
first-stops (suc n) [] number e other = e
first-stops (suc n) (x ∷ rest) number (inl h) other = inl h
first-stops (suc n) (x ∷ rest) number (inr (not, f)) other = inr (not, first-stops n rest number f other)

pub first-goes : (n : ℕ) (table : List Refusal) (number : ℕ) → Numbered (take n table) → First (take n table) 0 → First (drop n table) number
    → First table number
first-goes zero table number k f g = g
first-goes (suc n) [] number k f g = g
first-goes (suc n) (x ∷ rest) number k (inl (here, e)) g = let h = k.0 in absurd (omega arith)
first-goes (suc n) (x ∷ rest) number k (inr (not, f)) g = inr (not, first-goes n rest number k.1 f g)

-- two tables that begin with the same refusals give the same number, if what follows does
pub first-then : (table xs ys : List Refusal) (number : ℕ) → (First xs number → First ys number) → First (table ++ xs) number
    → First (table ++ ys) number
first-then [] xs ys number follows f = follows f
first-then (x ∷ rest) xs ys number follows (inl h) = inl h
first-then (x ∷ rest) xs ys number follows (inr (not, f)) = inr (not, first-then rest xs ys number follows f)

-- a line that applies to B too, where B does not hold
pub wider : {A B E R : Type 0} → (B → ⊥) → (A × E) ⊎ ((A → ⊥) × R) → ((A ⊎ B) × E) ⊎ ((A ⊎ B → ⊥) × R)
wider none (inl (here, e)) = inl (inl here, e)
wider none (inr (not, f)) = inr (⊎_elim not none, f)

pub narrower : {A B E R : Type 0} → (B → ⊥) → ((A ⊎ B) × E) ⊎ ((A ⊎ B → ⊥) × R) → (A × E) ⊎ ((A → ⊥) × R)
narrower none (inl (inl here, e)) = inl (here, e)
narrower none (inl (inr here, e)) = absurd (none here)
narrower none (inr (not, f)) = inr (λ here. not (inl here), f)

-- and where B holds, and the other line applies
pub closed : {A B C E R S : Type 0} → A → B → (A × E) ⊎ ((A → ⊥) × R) → ((C ⊎ B) × E) ⊎ ((C ⊎ B → ⊥) × S)
closed none here (inl (also, e)) = inl (inr here, e)
closed none here (inr (not, f)) = absurd (not none)

-- the two answers of a test
pub decided-true : {P : Type 0} → P → Decided true P
decided-true holds = record { holds = λ e. holds; fails = λ e. absurd (true≢false e) }

pub decided-false : {P : Type 0} → (P → ⊥) → Decided false P
decided-false fails = record { holds = λ e. absurd (true≢false (sym e)); fails = λ e. fails }

pub listed-passed : {p : ℕ} → (NotListed p → ⊥) → Listed p
listed-passed {p} n = go (listed p) refl
  where
    go : (b : Bool) → listed p ≡ b → Listed p
    go true e = is-listed e
    go false e = absurd (n e)

pub below-passed : {p : ℕ} {xs : List ℕ} → (TooLarge p xs → ⊥) → AllBelow p xs
below-passed {p} {xs} n i h = go (dec_lt (get_or xs i 0) p)
  where
    go : Dec (get_or xs i 0 < p) → get_or xs i 0 < p
    go (yes l) = l
    go (no g) = absurd (n (record { place = i; inside = h; large = omega arith }))

-- refusals that do not apply
pub not_unlisted : {p : ℕ} → Listed p → NotListed p → ⊥
not_unlisted l e = subst T e l.is

pub none-large : {p : ℕ} {xs : List ℕ} → AllBelow p xs → TooLarge p xs → ⊥
none-large below t = let l = t.large in let b = below t.place t.inside in omega arith

pub good-count : {p n : ℕ} → 3 ≤ n → n ≤ p → BadCount p n → ⊥
good-count a b (inl h) = omega arith
good-count a b (inr h) = omega arith

pub good-degree : {n k : ℕ} → 2 ≤ k → k < n → BadDegree n k → ⊥
good-degree a b (inl h) = omega arith
good-degree a b (inr h) = omega arith
