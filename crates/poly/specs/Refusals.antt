-- The numbers of the refusals (docs/RULES.md, section 13), by cases, and the number of what a call hands back.
--   number_of refused   the number of a refusal
--   outcome result      the number that stands for a result: 0 where the call was done, the refusal's number where it was refused
use Rattle.std.specs.Prelude.{ℕ, Result, Ok, Err}
use Rattle.poly.specs.declared.refused.Refused.{Refused}
use Rattle.poly.specs.declared.refused.Refused.TheVariants.{
  NotListed,
  BadCount,
  BadLength,
  BadDegree,
  BadHeights,
  TooLarge,
  Repeated,
  BadAgreements,
  TooShort,
  BadNote,
  NotAsLeft,
  Unfinished,
  Unvouched,
  Unreadable,
  NoDeparture,
}

abbrev pub number_of : Refused → ℕ
number_of NotListed = 1
number_of BadCount = 2
number_of BadLength = 3
number_of BadDegree = 4
number_of BadHeights = 5
number_of TooLarge = 6
number_of Repeated = 7
number_of BadAgreements = 8
number_of TooShort = 9
number_of BadNote = 10
number_of NotAsLeft = 11
number_of Unfinished = 12
number_of Unvouched = 13
number_of Unreadable = 14
number_of NoDeparture = 15

abbrev pub outcome : {A : Type 0} → Result A Refused → ℕ
outcome (Ok _) = 0
outcome (Err refused) = number_of refused
