-- How a note, a departure, and what a job hands back beside its number, lie in lent bytes.
--   note_bytes, back_bytes, departure_bytes, heard_bytes  the bytes that each takes
--   note_of xs              the note in the first bytes of xs: p, n, k, m, l, r
--   note_into note xs       xs with the note in its first bytes
--   back_of_turn, back_of_finish, back_of_list  what each job hands back beside its number and its note; zero for what it does not have
--   back_into back xs       xs with what is handed back in its first bytes: the updates, low byte first, the weight, the height, the count
--   updates_of xs           the updates in the first bytes of xs
--   finished_of number xs   what a finish hands back: the number, and the weight and the height in the first bytes of xs
--   bytes_of d              a departure's bytes: the boat, the day, low byte first, the minute, low byte first
--   departure_into d xs     xs with the departure in its first bytes
--   departure_in xs         the departure in the first bytes of xs
--   back_of_hear heard  what hear hands back: the number, the departure, the count; zeros for what there is not
--   heard_into back xs      xs with the departure in its first bytes, and then the count
--   count_in xs             the count that is there
--   Cleared size xs ys      ys is xs with its first `size` bytes zero, or xs itself where it has fewer
use Rattle.std.specs.Prelude.{◌≡◌, List, [], ◌∷◌, ◌++◌, ℕ, ◌+◌, ◌*◌, ◌/◌, ◌%◌, ◌<◌, ◌≤◌, length, get_or}
use Rattle.std.proofs.lemmas.List.Edits.{sets}
use Rattle.poly.specs.Lent.{Zeroed}
use Rattle.rows.specs.declared.Note.{Note}
use Rattle.rows.specs.Jobs.{Turned, Finished}
use Rattle.near.specs.Job.{Near}
use Rattle.departures.specs.Hearing.{heard_number, heard_count, heard_departure}
use Rattle.departures.specs.declared.Departure.{Departure}
use Rattle.departures.specs.Hearing.{Heard}
use Rattle.boards.specs.declared.Back.{Back}
use Rattle.boards.specs.declared.departure_calls.HeardBack.{HeardBack}

abbrev pub note_bytes : ℕ
note_bytes = 6

abbrev pub back_bytes : ℕ
back_bytes = 5

abbrev pub departure_bytes : ℕ
departure_bytes = 5

abbrev pub heard_bytes : ℕ
heard_bytes = 6

abbrev pub note_of : List ℕ → Note
note_of xs = record { p = get_or xs 0 0; n = get_or xs 1 0; k = get_or xs 2 0; m = get_or xs 3 0; l = get_or xs 4 0; r = get_or xs 5 0 }

abbrev pub note_into : Note → List ℕ → List ℕ
note_into note xs = sets xs 0 (note.p ∷ note.n ∷ note.k ∷ note.m ∷ note.l ∷ note.r ∷ [])

abbrev pub back_of_turn : Turned → Back
back_of_turn job = record { updates = job.updates; weight = 0; height = 0; count = 0 }

abbrev pub back_of_finish : Finished → Back
back_of_finish job = record { updates = 0; weight = job.weight; height = job.height; count = 0 }

abbrev pub back_of_list : Near → Back
back_of_list job = record { updates = job.updates; weight = job.weight; height = 0; count = job.count }

abbrev pub back_into : Back → List ℕ → List ℕ
back_into back xs = sets xs 0 (back.updates % 256 ∷ back.updates / 256 ∷ back.weight ∷ back.height ∷ back.count ∷ [])

abbrev pub updates_of : List ℕ → ℕ
updates_of xs = get_or xs 0 0 + 256 * get_or xs 1 0

abbrev pub finished_of : ℕ → List ℕ → Finished
finished_of number xs = record { number = number; weight = get_or xs 2 0; height = get_or xs 3 0 }

abbrev pub bytes_of : Departure → List ℕ
bytes_of d = d.boat ∷ d.day % 256 ∷ d.day / 256 ∷ d.minute % 256 ∷ d.minute / 256 ∷ []

abbrev pub departure_into : Departure → List ℕ → List ℕ
departure_into d xs = sets xs 0 (bytes_of d)

abbrev pub departure_in : List ℕ → Departure
departure_in xs = record { boat = get_or xs 0 0; day = get_or xs 1 0 + 256 * get_or xs 2 0; minute = get_or xs 3 0 + 256 * get_or xs 4 0 }

abbrev pub back_of_hear : Heard → HeardBack
back_of_hear heard = record { number = heard_number heard; departure = heard_departure heard; count = heard_count heard }

abbrev pub heard_into : HeardBack → List ℕ → List ℕ
heard_into back xs = sets xs 0 (bytes_of back.departure ++ back.count ∷ [])

abbrev pub count_in : List ℕ → ℕ
count_in xs = get_or xs 5 0

pub record Cleared (size : ℕ) (xs ys : List ℕ) : Type 0 where
  pub short : length xs < size → ys ≡ xs
  pub zeroed : size ≤ length xs → Zeroed size xs ys
