-- The writer, the reader and the printer: when each refuses, and what it leaves. Rules: sections 15, 16 and 23.
--   put_table d size room     refusals of a job that puts `size` bytes for the departure d at the front of a lent room
--   write_table, show_table   those of the writer and of the printer
--   read_table xs             those of the reader
--   Puts table text ..        what such a job leaves: the text at the front and the rest as it was, or every byte as it was
--   WritesDeparture, ShowsDeparture    what the writer leaves for a departure, and the printer
--   zero_departure            the departure of zeros that a refused reader hands back
--   Reading                   what the reader hands back: its number and the departure; Results says which stand for each case
--   ReadsDeparture xs back    what the reader hands back
use Rattle.std.specs.Prelude.{◌≡◌, List, [], ◌∷◌, ℕ, length, take}
use Rattle.poly.specs.Table.{Refusal, First, TooShort}
use Rattle.poly.specs.Lent.{Untouched}
use Rattle.departures.specs.Departures.{InRange, IsDeparture, six_symbols, departure_of, clock, departure_symbols, time_bytes}
use Rattle.departures.specs.declared.Departure.{Departure}

abbrev pub put_table : Departure → ℕ → List ℕ → List Refusal
put_table d size room = record { number = 15; applies = InRange d → ⊥ } ∷ record { number = 9; applies = TooShort size room } ∷ []

abbrev pub write_table : Departure → List ℕ → List Refusal
write_table d message = put_table d departure_symbols message

abbrev pub show_table : Departure → List ℕ → List Refusal
show_table d text = put_table d time_bytes text

abbrev pub read_table : List ℕ → List Refusal
read_table xs = record { number = 15; applies = IsDeparture xs → ⊥ } ∷ []

pub record Puts (table : List Refusal) (text before after : List ℕ) (number : ℕ) : Type 0 where
  pub first : First table number
  pub front : number ≡ 0 → take (length text) after ≡ text
  pub rest : number ≡ 0 → Untouched (length text) before after
  pub refused : (number ≡ 0 → ⊥) → after ≡ before

abbrev pub WritesDeparture : Departure → List ℕ → List ℕ → ℕ → Type 0
WritesDeparture d before after number = Puts (write_table d before) (six_symbols d) before after number

abbrev pub ShowsDeparture : Departure → List ℕ → List ℕ → ℕ → Type 0
ShowsDeparture d before after number = Puts (show_table d before) (clock d.minute) before after number

abbrev pub zero_departure : Departure
zero_departure = record { boat = 0; day = 0; minute = 0 }

pub record Reading : Type 0 where
  pub number : ℕ
  pub departure : Departure

pub record ReadsDeparture (xs : List ℕ) (back : Reading) : Type 0 where
  pub first : First (read_table xs) back.number
  pub read : back.number ≡ 0 → back.departure ≡ departure_of xs
  pub refused : (back.number ≡ 0 → ⊥) → back.departure ≡ zero_departure
