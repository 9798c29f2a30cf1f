-- The board's question: which departure was sent? Rules: section 23.
--   hear_table           its refusals 1 to 9, of which 1 never applies: those of a list over the field of departures, with room of its own
--                        for the messages
--   departure_task       what is asked of the list
--   Heard                what hear hands back, with the number where it is refused; Results says which stands for each case
--   Says list back       what is said of a list: none, the one departure, several, or 15 for a message that is alone and no departure
--   AnswersBoard         what an accepted question leaves: with w the curve's weight, 13 where m t is not above w, and else what is said of
--                        the list
--   HasHeard             what the job hands back and leaves in the working room
--   heard_number, heard_count, heard_departure  the number for each answer; 0, 1 or 2 for none, one or several; the departure, or zeros
--   Agrees d points word t    the departure is in range and agrees with the received word at t places or more
--   disturbed n xs ys    in how many of the first n places two words differ
--   Hears d back         what may be heard of a departure that was sent: itself, several, or a number other than 0 and 15; never none, and never
--                        another departure
use Rattle.std.specs.Prelude.{◌≡◌, ◌⊎◌, List, [], ◌∷◌, ◌++◌, ℕ, zero, suc, ◌+◌, ◌*◌, ◌≤◌, ◌<◌, length, get_or}
use Rattle.std.proofs.Math.Decide.{ℕ_discrete}
use Rattle.field.specs.Choices.{choose}
use Rattle.field.specs.Symbols.{symbols}
use Rattle.poly.specs.Limits.{working_room}
use Rattle.poly.specs.Table.{Refusal, First, TooShort}
use Rattle.poly.specs.Lent.{Zeroed}
use Rattle.curves.specs.Curves.{Curve}
use Rattle.rows.specs.Jobs.{TheCurve, request_table}
use Rattle.near.specs.Lists.{Task, polynomial, agreements, IsList}
use Rattle.near.specs.Job.{task_of}
use Rattle.departures.specs.Departures.{InRange, IsDeparture, six_symbols, departure_of, departure_field, departure_symbols}
use Rattle.departures.specs.Jobs.{zero_departure}
use Rattle.departures.specs.declared.Departure.{Departure}

abbrev pub hear_table : List ℕ → List ℕ → ℕ → ℕ → ℕ → List ℕ → List Refusal
hear_table points word m l t room =
    request_table departure_field points word departure_symbols m l ++
    record { number = 8; applies = (t < 1) ⊎ (length points < t) } ∷
    record { number = 9; applies = TooShort working_room room } ∷
    []

abbrev pub departure_task : List ℕ → List ℕ → ℕ → Task (symbols departure_field)
departure_task points word t = task_of departure_field points word departure_symbols t

pub data Heard : Type 0 where
  None : Heard
  One : Departure → Heard
  Several : Heard
  Refused : ℕ → Heard

pub data Says : List (List ℕ) → Heard → Type 0 where
  nothing : Says [] None
  shows : (x : List ℕ) → IsDeparture x → Says (x ∷ []) (One (departure_of x))
  strange : (x : List ℕ) → (IsDeparture x → ⊥) → Says (x ∷ []) (Refused 15)
  waits : (x y : List ℕ) (list : List (List ℕ)) → Says (x ∷ y ∷ list) Several

module _ (points word : List ℕ) (m l t : ℕ) (room_before room_after : List ℕ) (back : Heard) where
  pub record AnswersBoard : Type 0 where
    pub curve : Curve (symbols departure_field).ring
    pub smallest : TheCurve departure_field points word departure_symbols m l curve
    pub zeroed : Zeroed working_room room_before room_after
    pub unvouched : m * t ≤ smallest.weight → back ≡ Refused 13
    pub says : smallest.weight < m * t → (list : List (List ℕ)) × IsList (departure_task points word t) list
        × Says list back

  pub record HasHeard : Type 0 where
    pub entry : ℕ
    pub first : First (hear_table points word m l t room_before) entry
    pub answers : entry ≡ 0 → AnswersBoard
    pub refused : (entry ≡ 0 → ⊥) → (back ≡ Refused entry) × (room_after ≡ room_before)

abbrev pub heard_number : Heard → ℕ
heard_number None = 0
heard_number (One d) = 0
heard_number Several = 0
heard_number (Refused number) = number

abbrev pub heard_count : Heard → ℕ
heard_count None = 0
heard_count (One d) = 1
heard_count Several = 2
heard_count (Refused number) = 0

abbrev pub heard_departure : Heard → Departure
heard_departure None = zero_departure
heard_departure (One d) = d
heard_departure Several = zero_departure
heard_departure (Refused number) = zero_departure

pub record Agrees (d : Departure) (points word : List ℕ) (t : ℕ) : Type 0 where
  pub range : InRange d
  pub enough : t ≤ agreements (departure_task points word t) (length points)
      (polynomial (departure_task points word t) (six_symbols d))

abbrev pub disturbed : ℕ → List ℕ → List ℕ → ℕ
disturbed zero xs ys = 0
disturbed (suc n) xs ys = disturbed n xs ys + choose (ℕ_discrete (get_or xs n 0) (get_or ys n 0)) 0 1

pub data Hears (d : Departure) : Heard → Type 0 where
  itself : Hears d (One d)
  among : Hears d Several
  unheard : (number : ℕ) → (number ≡ 0 → ⊥) → (number ≡ 15 → ⊥) → Hears d (Refused number)
