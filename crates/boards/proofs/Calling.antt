-- A call with room for its note and for what it hands back is its job, on the note that is read there and with what it hands back written
-- there; a call without it is refused.
use mathlib.Core.Path.{◌≡◌, refl, sym, ap, subst, ◌∙◌}
use mathlib.Core.Logic.{inl, inr, ⊎_elim, dite}
use mathlib.Core.List.{List, []}
use Prim.Native.Nat.{ℕ, ◌<◌, ◌≤◌}
use native.Mathlib.Decide.{ℕ_discrete}
use native.Mathlib.Omega.{arith}
use lib.ListN.{length, take, drop}
use borrow.Author.Rules.{rules}
use Rattle.std.specs.Prelude.{Result, Ok, Err}
use Rattle.poly.specs.Table.{First}
use Rattle.poly.specs.Refusals.{outcome}
use Rattle.poly.specs.declared.refused.Refused.{Refused as RefusedBack}
use Rattle.poly.proofs.TableLaws.{first-passed, first-stops, first-goes, first-then, wider, narrower, closed}
use Rattle.poly.proofs.BufferLaws.{untouched-none}
use Rattle.rows.specs.Bytes.{shape, curve_bytes, rows_bytes}
use Rattle.rows.specs.Jobs.{HasStarted, HasTurned, HasFinished, start_table, turn_table, finish_table, shape_of}
use Rattle.rows.specs.Jobs.{Started, Turned, Finished}
use Rattle.rows.specs.Results.{started, finished}
use Rattle.rows.specs.declared.Note.{Note}
use Rattle.rows.specs.declared.Finished.{Finished as FinishedBack}
use Rattle.rows.proofs.Placing.{curve-some, rows-some}
use Rattle.near.specs.Job.{HasListed, list_table}
use Rattle.near.specs.Job.{Near}
use Rattle.near.specs.Results.{listed}
use Rattle.near.specs.declared.Near.{Near as NearBack}
use Rattle.departures.specs.Jobs.{read_table, ReadsDeparture}
use Rattle.departures.specs.Hearing.{hear_table, HasHeard}
use Rattle.departures.specs.Jobs.{Reading}
use Rattle.departures.specs.Hearing.{Heard}
use Rattle.departures.specs.Hearing.Heard.{Refused}
use Rattle.boards.specs.declared.departure_calls.HeardBack.{HeardBack}
use Rattle.boards.specs.Lent.{note_bytes, back_bytes, note_of, note_into, back_of_turn, back_of_finish, back_of_list, back_into, Cleared}
use Rattle.boards.specs.Lent.{departure_bytes, heard_bytes, departure_into, back_of_hear, heard_into}
use Rattle.boards.specs.Calls.{StartCall, TurnCall, FinishCall, ListCall, start_call_table, turn_call_table, finish_call_table, list_call_table}
use Rattle.boards.specs.DepartureCalls.{ReadCall, HearCall, read_call_table, hear_call_table}
use Rattle.boards.proofs.LentLaws.{note-same, cleared-none, cleared-note, cleared-back, cleared_heard, cleared_determined}

-- the number of what a job handed back
pub started-number : (r : Result Note RefusedBack) → outcome r ≡ (started r).number
started-number (Ok note) = refl
started-number (Err refused) = refl

pub finished-number : (r : Result FinishedBack RefusedBack) → outcome r ≡ (finished r).number
finished-number (Ok back) = refl
finished-number (Err refused) = refl

pub listed-number : (r : Result NearBack RefusedBack) → outcome r ≡ (listed r).number
listed-number (Ok back) = refl
listed-number (Err refused) = refl

-- start

pub start-short : {p : ℕ} {points word : List ℕ} {k m l : ℕ} {rows rows' note : List ℕ} {job : Started} → length note < note_bytes
    → HasStarted p points word k m l [] rows' job → StartCall p points word k m l rows rows note note job.number
start-short {p} {points} {word} {k} {m} {l} {rows} {note = note} {job} short has =
    let asked = start_table p points word k m l [] in
    let table = start_call_table p points word k m l rows note in
    let first =
    first-then (take 7 table) (drop 7 asked) (drop 7 table) job.number (closed (rows-some (shape p (length points) k m l)) short) has.first in
    record {
      first = first;
      done = λ z. absurd ((first-passed table (search rules) first z).1.1.1.1.1.1.1.0 (inr short));
      refused = λ n. (refl, cleared-none short);
    }

pub start-done : {p : ℕ} {points word : List ℕ} {k m l : ℕ} {rows rows' note note' : List ℕ} {job : Started} → note_bytes ≤ length note
    → HasStarted p points word k m l rows rows' job → note' ≡ note_into job.note note
    → StartCall p points word k m l rows rows' note note' job.number
start-done {p} {points} {word} {k} {m} {l} {rows} {note = note} {job = job} long has e =
    let asked = start_table p points word k m l rows in
    let table = start_call_table p points word k m l rows note in
    record {
      first = first-then (take 7 table) (drop 7 asked) (drop 7 table) job.number (wider (λ h. omega arith)) has.first;
      done = λ z. (job, has, refl, e);
      refused = λ n. ((has.refused n).1, rw (e, (has.refused n).0) (cleared-note long));
    }

-- turn

pub turn-unread : {allowance : ℕ} {note rows back back' : List ℕ} → length note < note_bytes → Cleared back_bytes back back'
    → TurnCall allowance note note rows rows back back' 9
turn-unread short c =
    record { entry = 9; first = inl (short, refl); done = λ z. absurd (omega arith); refused = λ n. (refl, refl, refl, c) }

pub turn-short : {allowance : ℕ} {note rows rows' back : List ℕ} {job : Turned} → note_bytes ≤ length note → length back < back_bytes
    → HasTurned (note_of note) allowance [] rows' job → TurnCall allowance note note rows rows back back job.number
turn-short {note = note} {rows} {back = back} long short has =
    let asked = turn_table (note_of note) [] in
    let table = turn_call_table note rows back in
    let first : First table has.entry = inr (
      λ h. omega arith,
      first-then (take 1 asked) (drop 1 asked) (drop 2 table) has.entry (closed (rows-some (shape_of (note_of note))) short) has.first,
    ) in
    record {
      entry = has.entry;
      first = first;
      done = λ z. absurd ((first-passed table (search rules) first z).1.1.0 (inr short));
      refused = λ n. ((has.refused n).0, refl, refl, cleared-none short);
    }

pub turn-done : {allowance : ℕ} {note note' rows rows' back back' : List ℕ} {job : Turned} → note_bytes ≤ length note → back_bytes ≤ length back
    → HasTurned (note_of note) allowance rows rows' job → note' ≡ note_into job.note note
    → back' ≡ back_into (back_of_turn job) back
    → TurnCall allowance note note' rows rows' back back' job.number
turn-done {note = note} {rows = rows} {back = back} {job = job} long room has e b =
    let asked = turn_table (note_of note) rows in
    let table = turn_call_table note rows back in
    record {
      entry = has.entry;
      first = inr (λ h. omega arith, first-then (take 1 asked) (drop 1 asked) (drop 2 table) has.entry (wider (λ h. omega arith)) has.first);
      done = λ z. (job, has, refl, e, b);
      refused = λ n.
          let (number, kept, none, same) = has.refused n in
          (number, e ∙ ap (λ x. note_into x note) kept ∙ note-same note, same, rw (b, none) (cleared-back room));
    }

-- a refused call is a job too: one that is refused
pub turn_job : {allowance : ℕ} {note note' rows rows' back back' : List ℕ} {number : ℕ} → note_bytes ≤ length note → back_bytes ≤ length back
    → TurnCall allowance note note' rows rows' back back' number
    → (job : Turned) × HasTurned (note_of note) allowance rows rows' job × (number ≡ job.number) × (note' ≡ note_into job.note note)
    × (back' ≡ back_into (back_of_turn job) back)
turn_job {note = note} {rows = rows} {back = back} long room call =
    let asked = turn_table (note_of note) rows in
    let table = turn_call_table note rows back in
    dite (ℕ_discrete call.entry 0) (λ z. call.done z)
    (λ n.
    let (number_is, note_is, rows_are, c) = call.refused n in (
      record { number = call.entry; note = note_of note; updates = 0 },
      record {
        entry = call.entry;
        first =
            ⊎_elim (λ h. absurd (omega (arith, h.0)))
            (λ f. first-then (take 1 asked) (drop 2 table) (drop 1 asked) call.entry (narrower (λ h. omega arith)) f.1) call.first;
        goes = λ z. absurd (n z);
        rest = rw rows_are (untouched-none (rows_bytes (shape_of (note_of note))) rows);
        refused = λ m. (refl, refl, refl, rows_are);
      },
      number_is,
      note_is ∙ sym (note-same note),
      cleared_determined c (cleared-back room),
    ))

-- finish

pub finish-unread : {note rows curve back back' : List ℕ} → length note < note_bytes → Cleared back_bytes back back'
    → FinishCall note rows curve curve back back' 9
finish-unread short c = record { first = inl (short, refl); done = λ z. absurd (omega arith); refused = λ n. (refl, c) }

pub finish-short : {note rows curve curve' back : List ℕ} {job : Finished} → note_bytes ≤ length note → length back < back_bytes
    → HasFinished (note_of note) rows [] curve' job → FinishCall note rows curve curve back back job.number
finish-short {note} {rows} {curve} {back = back} {job} long short has =
    let asked = finish_table (note_of note) rows [] in
    let table = finish_call_table note rows curve back in
    let first : First table job.number = inr (
      λ h. omega arith,
      first-then (take 1 asked) (drop 1 asked) (drop 2 table) job.number (closed (inr (curve-some (shape_of (note_of note)))) short) has.first,
    ) in
    record {
      first = first;
      done = λ z. absurd ((first-passed table (search rules) first z).1.1.0 (inr short));
      refused = λ n. (refl, cleared-none short);
    }

pub finish-done : {note rows curve curve' back back' : List ℕ} {job : Finished} → note_bytes ≤ length note → back_bytes ≤ length back
    → HasFinished (note_of note) rows curve curve' job
    → back' ≡ back_into (back_of_finish job) back
    → FinishCall note rows curve curve' back back' job.number
finish-done {note} {rows} {curve} {back = back} {job = job} long room has b =
    let asked = finish_table (note_of note) rows curve in
    let table = finish_call_table note rows curve back in
    record {
      first = inr (λ h. omega arith, first-then (take 1 asked) (drop 1 asked) (drop 2 table) job.number (wider (λ h. omega arith)) has.first);
      done = λ z. (job, has, refl, b);
      refused = λ n. let (weight, height, same) = has.refused n in (same, rw (b, weight, height) (cleared-back room));
    }

pub finish_job : {note rows curve curve' back back' : List ℕ} {number : ℕ} → note_bytes ≤ length note → back_bytes ≤ length back
    → FinishCall note rows curve curve' back back' number
    → (job : Finished) × HasFinished (note_of note) rows curve curve' job × (number ≡ job.number)
    × (back' ≡ back_into (back_of_finish job) back)
finish_job {note} {rows} {curve} {back = back} {number = number} long room call =
    let asked = finish_table (note_of note) rows curve in
    let table = finish_call_table note rows curve back in
    dite (ℕ_discrete number 0) (λ z. call.done z)
    (λ n.
    let (curve-is, c) = call.refused n in (
      record { number = number; weight = 0; height = 0 },
      record {
        first =
            ⊎_elim (λ h. absurd (omega (arith, h.0)))
            (λ f. first-then (take 1 asked) (drop 2 table) (drop 1 asked) number (narrower (λ h. omega arith)) f.1) call.first;
        curve = λ z. absurd (n z);
        rest = rw curve-is (untouched-none (curve_bytes (shape_of (note_of note))) curve);
        refused = λ m. (refl, refl, curve-is);
      },
      refl,
      cleared_determined c (cleared-back room),
    ))

-- list

pub list-short : {p : ℕ} {points word : List ℕ} {k m l t : ℕ} {room room' messages messages' back : List ℕ} {job : Near}
    → length back < back_bytes → HasListed p points word k m l t [] room' [] messages' job
    → ListCall p points word k m l t room room messages messages back back job.number
list-short {p} {points} {word} {k} {m} {l} {t} {room} {messages = messages} {back = back} short has =
    let asked = list_table p points word k m l t [] [] in
    let table = list_call_table p points word k m l t room messages back in
    let first = first-then (take 8 table) (drop 8 asked) (drop 8 table) has.entry (closed (inl (omega arith)) short) has.first in
    record {
      entry = has.entry;
      first = first;
      done = λ z. absurd ((first-passed table (search rules) first z).1.1.1.1.1.1.1.1.0 (inr short));
      refused = λ n. (ap (λ j. j.number) (has.refused n).0, refl, refl, cleared-none short);
    }

pub list-done : {p : ℕ} {points word : List ℕ} {k m l t : ℕ} {room room' messages messages' back back' : List ℕ} {job : Near}
    → back_bytes ≤ length back → HasListed p points word k m l t room room' messages messages' job
    → back' ≡ back_into (back_of_list job) back
    → ListCall p points word k m l t room room' messages messages' back back' job.number
list-done {p} {points} {word} {k} {m} {l} {t} {room} {messages = messages} {back = back} {job = job} long has b =
    let asked = list_table p points word k m l t room messages in
    let table = list_call_table p points word k m l t room messages back in
    record {
      entry = has.entry;
      first = first-then (take 8 table) (drop 8 asked) (drop 8 table) has.entry (wider (λ h. omega arith)) has.first;
      done = λ z. (job, has, refl, b);
      refused = λ n.
          let (none, kept, same) = has.refused n in
          (ap (λ j. j.number) none, kept, same, rw (b, none) (cleared-back long));
    }

-- read

pub read-refused : {message departure departure' : List ℕ} {job : Reading} → ReadsDeparture message job → (job.number ≡ 0 → ⊥)
    → Cleared departure_bytes departure departure'
    → ReadCall message departure departure' job.number
read-refused {message} {departure} {job = job} has n c =
    record {
      first = first-stops 1 (read_call_table message departure) job.number has.first n;
      done = λ z. absurd (n z);
      refused = λ _. c;
    }

pub read-short : {message departure : List ℕ} {job : Reading} → ReadsDeparture message job → job.number ≡ 0 → length departure < departure_bytes
    → ReadCall message departure departure 9
read-short {message} {departure} has z short =
    record {
      first = first-goes 1 (read_call_table message departure) 9 (search rules) (subst (First (read_table message)) z has.first) (inl (short, refl));
      done = λ e. absurd (omega arith);
      refused = λ n. cleared-none short;
    }

pub read-done : {message departure departure' : List ℕ} {job : Reading} → ReadsDeparture message job → job.number ≡ 0
    → departure_bytes ≤ length departure → departure' ≡ departure_into job.departure departure
    → ReadCall message departure departure' 0
read-done {message} {departure} {job = job} has z long e =
    let first = subst (First (read_table message)) z has.first in
    record {
      first = first-goes 1 (read_call_table message departure) 0 (search rules) first (inr (λ h. omega arith, refl));
      done = λ _. (job, has, sym z, e);
      refused = λ n. absurd (n refl);
    }

-- hear

-- what is heard has its place in the lent bytes, where the call is not refused
pub hear-room : {points word : List ℕ} {m l t : ℕ} (room heard : List ℕ) {entry : ℕ} → First (hear_call_table points word m l t room heard) entry
    → entry ≡ 0
    → length heard < heard_bytes
    → ⊥
hear-room {points} {word} {m} {l} {t} room heard first z short =
    (first-passed (hear_call_table points word m l t room heard) (search rules) first z).1.1.1.1.1.1.1.1.0 (inr short)

pub hear-short : {points word : List ℕ} {m l t : ℕ} {room room' heard : List ℕ} {job : Heard} {back : HeardBack} → length heard < heard_bytes
    → HasHeard points word m l t [] room' job → back ≡ back_of_hear job
    → HearCall points word m l t room room heard heard back.number
hear-short {points} {word} {m} {l} {t} {room} {heard = heard} short has e =
    let asked = hear_table points word m l t [] in
    let table = hear_call_table points word m l t room heard in
    let first = first-then (take 8 table) (drop 8 asked) (drop 8 table) has.entry (closed (omega arith) short) has.first in
    record {
      entry = has.entry;
      first = first;
      done = λ z. absurd (hear-room room heard first z short);
      refused = λ n. (ap (λ x. x.number) (e ∙ ap back_of_hear (has.refused n).0), refl, cleared-none short);
    }

pub hear-done : {points word : List ℕ} {m l t : ℕ} {room room' heard heard' : List ℕ} {job : Heard} {back : HeardBack}
    → heard_bytes ≤ length heard → HasHeard points word m l t room room' job → back ≡ back_of_hear job
    → heard' ≡ heard_into back heard
    → HearCall points word m l t room room' heard heard' back.number
hear-done {points} {word} {m} {l} {t} {room} {heard = heard} {job = job} long has e b =
    let asked = hear_table points word m l t room in
    let table = hear_call_table points word m l t room heard in
    record {
      entry = has.entry;
      first = first-then (take 8 table) (drop 8 asked) (drop 8 table) has.entry (wider (λ h. omega arith)) has.first;
      done = λ z. (job, has, ap (λ x. x.number) e, b ∙ ap (λ x. heard_into x heard) e);
      refused = λ n.
          let (none, kept) = has.refused n in
          let zeros = e ∙ ap back_of_hear none in
          (ap (λ x. x.number) zeros, kept, rw (b, zeros) (cleared_heard has.entry long));
    }

pub hear_job : {points word : List ℕ} {m l t : ℕ} {room room' heard heard' : List ℕ} {number : ℕ} → heard_bytes ≤ length heard
    → HearCall points word m l t room room' heard heard' number
    → (job : Heard) × HasHeard points word m l t room room' job × (number ≡ (back_of_hear job).number) × (heard'
    ≡ heard_into (back_of_hear job) heard)
hear_job {points} {word} {m} {l} {t} {room} {heard = heard} long call =
    let asked = hear_table points word m l t room in
    let table = hear_call_table points word m l t room heard in
    dite (ℕ_discrete call.entry 0) (λ z. call.done z)
    (λ n.
    let (number_is, room-is, c) = call.refused n in (
      Refused call.entry,
      record {
        entry = call.entry;
        first = first-then (take 8 table) (drop 8 table) (drop 8 asked) call.entry (narrower (λ h. omega arith)) call.first;
        answers = λ z. absurd (n z);
        refused = λ _. (refl, room-is);
      },
      number_is,
      cleared_determined c (cleared_heard call.entry long),
    ))
