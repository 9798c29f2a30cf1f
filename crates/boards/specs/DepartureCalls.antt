-- What each call on departures leaves. A primed name is what the call leaves in the bytes of that name. Rules: section 23.
--   read_call_table, hear_call_table  the refusals of each call, in order: its job's, where 9 also says that the lent bytes for a departure, or for
--                   what is heard, are too few
--   ReadCall, HearCall    the number by the call's table, and:
--     done          if no line of it applies: what the job's own contract says, with what it hands back in the lent bytes
--     refused       if one does: every byte is as it was, but for zeros where the answer would stand, if there is room for them
--   SentHeard d number heard    what the call may tell where the departure d was sent and agrees at t places or more
-- Write and show hand back their number alone: their calls have the job's own contract.
use Rattle.std.specs.Prelude.{◌≡◌, ◌⊎◌, List, [], ◌∷◌, ◌++◌, ℕ, ◌<◌, length, take}
use Rattle.poly.specs.Limits.{working_room}
use Rattle.poly.specs.Table.{Refusal, First, TooShort}
use Rattle.rows.specs.Jobs.{request_table}
use Rattle.departures.specs.Departures.{departure_field, departure_symbols}
use Rattle.departures.specs.Jobs.{read_table, ReadsDeparture}
use Rattle.departures.specs.Hearing.{HasHeard}
use Rattle.departures.specs.declared.Departure.{Departure}
use Rattle.departures.specs.Jobs.{Reading}
use Rattle.departures.specs.Hearing.{Heard}
use Rattle.boards.specs.Lent.{departure_bytes, heard_bytes, bytes_of, departure_into, departure_in, back_of_hear, heard_into, count_in, Cleared}

-- read

abbrev pub read_call_table : List ℕ → List ℕ → List Refusal
read_call_table message departure = read_table message ++ record { number = 9; applies = TooShort departure_bytes departure } ∷ []

pub record ReadCall (message departure departure' : List ℕ) (number : ℕ) : Type 0 where
  pub first : First (read_call_table message departure) number
  pub done : number ≡ 0 → (job : Reading) × ReadsDeparture message job × (number ≡ job.number)
      × (departure' ≡ departure_into job.departure departure)
  pub refused : (number ≡ 0 → ⊥) → Cleared departure_bytes departure departure'

-- hear: its number is that of the entry, unless 13 comes, or 15

abbrev pub hear_call_table : List ℕ → List ℕ → ℕ → ℕ → ℕ → List ℕ → List ℕ → List Refusal
hear_call_table points word m l t room heard =
    request_table departure_field points word departure_symbols m l ++
    record { number = 8; applies = (t < 1) ⊎ (length points < t) } ∷
    record { number = 9; applies = TooShort working_room room ⊎ TooShort heard_bytes heard } ∷
    []

pub record HearCall (points word : List ℕ) (m l t : ℕ) (room room' heard heard' : List ℕ) (number : ℕ) : Type 0 where
  pub entry : ℕ
  pub first : First (hear_call_table points word m l t room heard) entry
  pub done : entry ≡ 0 → (job : Heard) × HasHeard points word m l t room room' job × (number ≡ (back_of_hear job).number)
      × (heard' ≡ heard_into (back_of_hear job) heard)
  pub refused : (entry ≡ 0 → ⊥) → (number ≡ entry) × (room' ≡ room) × Cleared heard_bytes heard heard'

-- the departure that was sent

pub record SentHeard (d : Departure) (number : ℕ) (heard : List ℕ) : Type 0 where
  -- if one is shown, its five bytes are those of the departure that was sent, and are read as it
  pub shown : number ≡ 0 → count_in heard ≡ 1 → (take departure_bytes heard ≡ bytes_of d) × (departure_in heard ≡ d)
  -- there is never none, and a message that is alone is a departure
  pub some : number ≡ 0 → 0 < count_in heard
  pub spelt : number ≡ 15 → ⊥
