-- What each call from C leaves. A primed name is what the call leaves in the bytes of that name.
--   start_call_table, turn_call_table, finish_call_table, list_call_table  the refusals of each call, in order: its job's, where 9 also says that the
--                   lent note or back is too short. A turn and a finish first of all need the note that they are to read: 9 without it
--   StartCall, TurnCall, FinishCall, ListCall    the number by the call's table, and:
--     done          if no line of it applies: what the job's own contract says, with what it hands back in the lent bytes
--     refused       if one does: every byte is as it was, but for zeros in back, and in the note of a start, where there is room for them
--   DrivenCalls     a start that is answered with 0, then any number of turns, each on the bytes that the last call left, with room in back
--   PauseCalls      what holds at every pause of the calls (demand 3)
-- Encode hands back its number alone: its call has the job's own contract.
use Rattle.std.specs.Prelude.{◌≡◌, ◌⊎◌, List, [], ◌∷◌, ◌++◌, ℕ, suc, ◌+◌, ◌*◌, ◌<◌, ◌≤◌, length}
use Rattle.poly.specs.Limits.{working_room}
use Rattle.poly.specs.Table.{Refusal, First, TooShort}
use Rattle.rows.specs.Bytes.{shape, curve_bytes, rows_bytes}
use Rattle.rows.specs.Jobs.{BadNote, shape_of, AsLeft, request_table, HasStarted, HasTurned, HasFinished}
use Rattle.rows.specs.Demands.{Request, shape_for, HandsCurve, Pause}
use Rattle.rows.specs.Jobs.{Started, Turned, Finished}
use Rattle.near.specs.Job.{HasListed}
use Rattle.near.specs.Job.{Near}
use Rattle.boards.specs.Lent.{note_bytes, back_bytes, note_of, note_into, updates_of, finished_of, Cleared}
use Rattle.boards.specs.Lent.{back_of_turn, back_of_finish, back_of_list, back_into}

-- start

abbrev pub start_call_table : ℕ → List ℕ → List ℕ → ℕ → ℕ → ℕ → List ℕ → List ℕ → List Refusal
start_call_table p points word k m l rows note =
    request_table p points word k m l ++
    record { number = 9; applies = TooShort (rows_bytes (shape p (length points) k m l)) rows ⊎ TooShort note_bytes note } ∷
    []

pub record StartCall (p : ℕ) (points word : List ℕ) (k m l : ℕ) (rows rows' note note' : List ℕ) (number : ℕ) : Type 0 where
  pub first : First (start_call_table p points word k m l rows note) number
  pub done : number ≡ 0 → (job : Started) × HasStarted p points word k m l rows rows' job × (number ≡ job.number)
      × (note' ≡ note_into job.note note)
  pub refused : (number ≡ 0 → ⊥) → (rows' ≡ rows) × Cleared note_bytes note note'

-- turn: its number is that of the entry, unless the late 11 comes

abbrev pub turn_call_table : List ℕ → List ℕ → List ℕ → List Refusal
turn_call_table note rows back =
    record { number = 9; applies = TooShort note_bytes note } ∷
    record { number = 10; applies = BadNote (note_of note) } ∷
    record { number = 9; applies = TooShort (rows_bytes (shape_of (note_of note))) rows ⊎ TooShort back_bytes back } ∷
    record { number = 11; applies = AsLeft (shape_of (note_of note)) (note_of note).r rows → ⊥ } ∷
    []

pub record TurnCall (allowance : ℕ) (note note' rows rows' back back' : List ℕ) (number : ℕ) : Type 0 where
  pub entry : ℕ
  pub first : First (turn_call_table note rows back) entry
  pub done : entry ≡ 0 → (job : Turned) × HasTurned (note_of note) allowance rows rows' job × (number ≡ job.number)
      × (note' ≡ note_into job.note note) × (back' ≡ back_into (back_of_turn job) back)
  pub refused : (entry ≡ 0 → ⊥) → (number ≡ entry) × (note' ≡ note) × (rows' ≡ rows) × Cleared back_bytes back back'

-- finish

abbrev pub finish_call_table : List ℕ → List ℕ → List ℕ → List ℕ → List Refusal
finish_call_table note rows curve back =
    record { number = 9; applies = TooShort note_bytes note } ∷
    record { number = 10; applies = BadNote (note_of note) } ∷
    record {
      number = 9;
      applies = (TooShort (rows_bytes (shape_of (note_of note))) rows ⊎ TooShort (curve_bytes (shape_of (note_of note))) curve)
          ⊎ TooShort back_bytes back;
    } ∷
    record { number = 12; applies = (note_of note).r < suc (note_of note).l } ∷
    record { number = 11; applies = AsLeft (shape_of (note_of note)) (note_of note).r rows → ⊥ } ∷
    []

pub record FinishCall (note rows curve curve' back back' : List ℕ) (number : ℕ) : Type 0 where
  pub first : First (finish_call_table note rows curve back) number
  pub done : number ≡ 0 → (job : Finished) × HasFinished (note_of note) rows curve curve' job × (number ≡ job.number)
      × (back' ≡ back_into (back_of_finish job) back)
  pub refused : (number ≡ 0 → ⊥) → (curve' ≡ curve) × Cleared back_bytes back back'

-- list: its number is that of the entry, unless 13 comes

abbrev pub list_call_table : ℕ → List ℕ → List ℕ → ℕ → ℕ → ℕ → ℕ → List ℕ → List ℕ → List ℕ → List Refusal
list_call_table p points word k m l t room messages back =
    request_table p points word k m l ++
    record { number = 8; applies = (t < 1) ⊎ (length points < t) } ∷
    record { number = 9; applies = (TooShort working_room room ⊎ TooShort (l * k) messages) ⊎ TooShort back_bytes back } ∷
    []

pub record ListCall (p : ℕ) (points word : List ℕ) (k m l t : ℕ) (room room' messages messages' back back' : List ℕ) (number : ℕ) : Type 0 where
  pub entry : ℕ
  pub first : First (list_call_table p points word k m l t room messages back) entry
  pub done : entry ≡ 0 → (job : Near) × HasListed p points word k m l t room room' messages messages' job × (number ≡ job.number)
      × (back' ≡ back_into (back_of_list job) back)
  pub refused : (entry ≡ 0 → ⊥) → (number ≡ entry) × (room' ≡ room) × (messages' ≡ messages) × Cleared back_bytes back back'

-- demand 3

-- the allowances so far added up, the rows' and the note's bytes, and the updates so far added up
pub data DrivenCalls (q : Request) : ℕ → List ℕ → List ℕ → ℕ → Type 0 where
  started : {rows rows' note note' : List ℕ} → StartCall q.p q.points q.word q.k q.m q.l rows rows' note note' 0
      → DrivenCalls q 0 rows' note' 0
  turned : {allowed total number : ℕ} {rows rows' note note' back back' : List ℕ} (allowance : ℕ) → DrivenCalls q allowed rows note total
      → back_bytes ≤ length back → TurnCall allowance note note' rows rows' back back' number
      → DrivenCalls q (allowed + allowance) rows' note' (total + updates_of back')

pub record PauseCalls (q : Request) (allowed : ℕ) (rows note : List ℕ) (total : ℕ) : Type 0 where
  -- the next turn with room in back, whatever its allowance, gives 0
  pub accepted : (allowance number : ℕ) (note' rows' back back' : List ℕ) → back_bytes ≤ length back
      → TurnCall allowance note note' rows rows' back back' number → number ≡ 0
  -- rows and note are as at a pause of the jobs: what the rows generate, in which power of y each leads, how many updates were made, and that r
  -- is l + 1 once the allowances add up to the formula
  pub paused : Pause q allowed rows (note_of note) total
  -- then a finish with room for the curve and in back gives 0, and hands over the curve of demand 2 with its weight and height
  pub handed : (note_of note).r ≡ suc q.l → (number : ℕ) (curve curve' back back' : List ℕ) → curve_bytes (shape_for q) ≤ length curve
      → back_bytes ≤ length back → FinishCall note rows curve curve' back back' number → HandsCurve q curve' (finished_of number back')
