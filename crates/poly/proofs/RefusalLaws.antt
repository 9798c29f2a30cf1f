-- The number of a refusal tells which one it is, and so the number of a call that hands over nothing tells its result.
use mathlib.Core.Path.{◌≡◌, refl, sym, ap, ◌∙◌}
use mathlib.Core.List.{[], ◌∷◌}
use Prim.Native.Nat.{ℕ}
use lib.ListN.{get_or}
use Rattle.std.specs.Prelude.{Result, Ok, Err}
use Rattle.poly.specs.Refusals.{number_of, outcome}
use Rattle.poly.specs.declared.refused.Refused.{Refused}
use Rattle.poly.specs.declared.refused.Refused.TheVariants.{
  NotListed,
  BadCount,
  BadLength,
  BadDegree,
  BadHeights,
  TooLarge,
  Repeated,
  BadAgreements,
  TooShort,
  BadNote,
  NotAsLeft,
  Unfinished,
  Unvouched,
  Unreadable,
  NoDeparture,
}

-- the result with a number
abbrev result_at : ℕ → Result Unit Refused
result_at n =
    get_or
    (
    Ok tt ∷ Err NotListed ∷ Err BadCount ∷ Err BadLength ∷ Err BadDegree ∷ Err BadHeights ∷ Err TooLarge ∷ Err Repeated ∷ Err BadAgreements ∷
    Err TooShort ∷ Err BadNote ∷ Err NotAsLeft ∷ Err Unfinished ∷ Err Unvouched ∷ Err Unreadable ∷ Err NoDeparture ∷ []
    )
    n (Ok tt)

result_at-number_of : (a : Refused) → result_at (number_of a) ≡ Err a
result_at-number_of NotListed = refl
result_at-number_of BadCount = refl
result_at-number_of BadLength = refl
result_at-number_of BadDegree = refl
result_at-number_of BadHeights = refl
result_at-number_of TooLarge = refl
result_at-number_of Repeated = refl
result_at-number_of BadAgreements = refl
result_at-number_of TooShort = refl
result_at-number_of BadNote = refl
result_at-number_of NotAsLeft = refl
result_at-number_of Unfinished = refl
result_at-number_of Unvouched = refl
result_at-number_of Unreadable = refl
result_at-number_of NoDeparture = refl

result_at-outcome : (r : Result Unit Refused) → result_at (outcome r) ≡ r
result_at-outcome (Ok _) = refl
result_at-outcome (Err a) = result_at-number_of a

pub outcome-determines : (a b : Result Unit Refused) → outcome a ≡ outcome b → a ≡ b
outcome-determines a b e = sym (result_at-outcome a) ∙ ap result_at e ∙ result_at-outcome b

pub number_of-positive : (a : Refused) → number_of a ≡ 0 → ⊥
number_of-positive a e = let z = outcome-determines (Err a) (Ok tt) e in cc

pub number_of-determines : (a b : Refused) → number_of a ≡ number_of b → a ≡ b
number_of-determines a b e = let z = outcome-determines (Err a) (Err b) e in cc
