-- The definitions on small numbers, by computation: 300 updates are the bytes 44 and 1, as 300 = 1 * 256 + 44; day 368 is 112 and 1, minute
-- 1,455 is 175 and 5.
use Rattle.std.specs.Prelude.{◌≡◌, refl, List, [], ◌∷◌, ℕ}
use Rattle.rows.specs.declared.Note.{Note}
use Rattle.departures.specs.declared.Departure.{Departure}
use Rattle.departures.specs.Hearing.Heard.{One, Several}
use Rattle.boards.specs.Lent.{note_of, note_into, back_into, updates_of, finished_of}
use Rattle.boards.specs.Lent.{departure_into, departure_in, back_of_hear, heard_into, count_in}

abbrev lent : List ℕ
lent = 9 ∷ 9 ∷ 9 ∷ 9 ∷ 9 ∷ 9 ∷ 9 ∷ []

abbrev note : Note
note = record { p = 7; n = 6; k = 3; m = 2; l = 3; r = 1 }

note_example : note_into note lent ≡ 7 ∷ 6 ∷ 3 ∷ 2 ∷ 3 ∷ 1 ∷ 9 ∷ []
note_example = refl

read_example : note_of (note_into note lent) ≡ note
read_example = refl

back_example : back_into (record { updates = 300; weight = 7; height = 3; count = 2 }) lent ≡ 44 ∷ 1 ∷ 7 ∷ 3 ∷ 2 ∷ 9 ∷ 9 ∷ []
back_example = refl

updates_example : updates_of (44 ∷ 1 ∷ lent) ≡ 300
updates_example = refl

finished_example : finished_of 0 (0 ∷ 0 ∷ 7 ∷ 3 ∷ lent) ≡ record { number = 0; weight = 7; height = 3 }
finished_example = refl

abbrev last-boat : Departure
last-boat = record { boat = 4; day = 368; minute = 1455 }

departure_example : departure_into last-boat lent ≡ 4 ∷ 112 ∷ 1 ∷ 175 ∷ 5 ∷ 9 ∷ 9 ∷ []
departure_example = refl

departure-read : departure_in (departure_into last-boat lent) ≡ last-boat
departure-read = refl

one_example : heard_into (back_of_hear (One last-boat)) lent ≡ 4 ∷ 112 ∷ 1 ∷ 175 ∷ 5 ∷ 1 ∷ 9 ∷ []
one_example = refl

several_example : heard_into (back_of_hear Several) lent ≡ 0 ∷ 0 ∷ 0 ∷ 0 ∷ 0 ∷ 2 ∷ 9 ∷ []
several_example = refl

count_example : count_in (4 ∷ 112 ∷ 1 ∷ 175 ∷ 5 ∷ 1 ∷ lent) ≡ 1
count_example = refl
