-- Departures, and the six symbols that spell them. Rules: section 23.
--   departure_field        the field of the symbols, and so the base of the digits
--   departure_symbols      the symbols of a message
--   boat_most, day_most, minute_most  the largest boat, service day, and minute of the service day: no minute is wrapped at 1,440
--   InRange d              no part of the departure is above its largest
--   six_symbols d          the boat; the day as two digits, high first; the minute as three
--   with_digit high digit  the number with one digit more
--   departure_of xs        the departure that six symbols spell
--   IsDeparture xs         xs is six symbols, and the minute that they spell is not above the largest
--   two_digits n           a number below 100 as two decimal digits, in bytes of text
--   clock minute           hours, colon, minutes: 24:15 for 1,455; time_bytes  the bytes that it takes
use Rattle.std.specs.Prelude.{List, [], ◌∷◌, ◌++◌, ℕ, ◌+◌, ◌*◌, ◌/◌, ◌%◌, ◌≤◌, get_or}
use Rattle.near.specs.Lists.{Spelt}
use Rattle.departures.specs.declared.Departure.{Departure}

abbrev pub departure_field : ℕ
departure_field = 31

abbrev pub departure_symbols : ℕ
departure_symbols = 6

abbrev pub boat_most : ℕ
boat_most = 30

abbrev pub day_most : ℕ
day_most = 960

abbrev pub minute_most : ℕ
minute_most = 1799

pub record InRange (d : Departure) : Type 0 where
  pub boat : d.boat ≤ boat_most
  pub day : d.day ≤ day_most
  pub minute : d.minute ≤ minute_most

abbrev pub six_symbols : Departure → List ℕ
six_symbols d =
    d.boat ∷
    d.day / departure_field ∷
    d.day % departure_field ∷
    d.minute / departure_field / departure_field ∷
    d.minute / departure_field % departure_field ∷
    d.minute % departure_field ∷
    []

abbrev pub with_digit : ℕ → ℕ → ℕ
with_digit high digit = high * departure_field + digit

abbrev pub departure_of : List ℕ → Departure
departure_of xs =
    record {
      boat = get_or xs 0 0;
      day = with_digit (get_or xs 1 0) (get_or xs 2 0);
      minute = with_digit (with_digit (get_or xs 3 0) (get_or xs 4 0)) (get_or xs 5 0);
    }

pub record IsDeparture (xs : List ℕ) : Type 0 where
  pub spelt : Spelt departure_field departure_symbols xs
  pub minute : (departure_of xs).minute ≤ minute_most

abbrev pub time_bytes : ℕ
time_bytes = 5

abbrev pub two_digits : ℕ → List ℕ
two_digits n = (48 + n / 10) ∷ (48 + n % 10) ∷ []

abbrev pub clock : ℕ → List ℕ
clock minute = two_digits (minute / 60) ++ (58 ∷ two_digits (minute % 60))
