-- The jobs start, turn and finish: when each refuses, and what it leaves. A refusal at entry leaves every byte as it was. Rules: sections 8 to 16.
--   TheCurve p points word k m l Q   Q is the curve of demand 2: of those that pass through the received points, the monic nonzero one with
--                          the smallest leading term
--   BadNote note           10: 1, 2, 4 or 5 would apply to the note, or r is outside 1 to l + 1
--   shape_of note          the numbers by which the bytes of its rows are read
--   AsLeft S r xs          the rows are as a turn leaves them; 11 if they are not
--   Started, Turned, Made, Finished  what start, a turn, a turn in place and finish hand back: the number and the values beside it
--   at_row note r          the note with r as its current row; no_note  all zeros
--   request_table          the refusals 1 to 7 of a request, with which start and list begin
--   start_table, turn_table, finish_table  the refusals of each job, in order
--   HoldsStart             the bytes are the rows that a start fills; HasStarted  what start hands back and leaves in the lent rows
--   Goes                   an accepted turn goes by the rule and hands over what the rule leaves; HasTurned  the same with refusals
--   with_note made note    what a turn in place hands back, with the note that it leaves
--   Hands                  finish hands over the lightest row, made monic, with its weight and height; HasFinished  the same with refusals
use Rattle.std.specs.Prelude.{◌≡◌, ◌⊎◌, List, [], ◌∷◌, ◌++◌, ℕ, suc, ◌-◌, ◌<◌, length, take}
use Rattle.field.specs.Symbols.{symbols, symbols_of}
use Rattle.poly.specs.Polynomials.{Seq, locator, Through}
use Rattle.poly.specs.Table.{Refusal, First, NotListed, BadCount, BadDegree, BadHeights, TooLarge, Repeated, TooShort}
use Rattle.poly.specs.Lent.{Untouched}
use Rattle.curves.specs.Curves.{Curve, HasHeight, Smallest, Passing}
use Rattle.curves.specs.Start.{start_row}
use Rattle.curves.specs.Turns.{Outcome, Turn}
use Rattle.curves.specs.Entry.{Sound}
use Rattle.curves.specs.Finish.{Lightest, monic}
use Rattle.rows.specs.Bytes.{shape, curve_bytes, rows_bytes, rows_of, Holds, HoldsCurve}
use Rattle.rows.specs.declared.Note.{Note}
use Rattle.rows.specs.declared.Shape.{Shape}

abbrev pub TheCurve : (p : ℕ) → List ℕ → List ℕ → ℕ → ℕ → ℕ → Curve (symbols p).ring → Type 0
TheCurve p points word k m l =
    Smallest (symbols p).ring (k - 1) (Passing (symbols p).ring (length points) m l (symbols_of p points) (symbols_of p word))

pub data BadNote (note : Note) : Type 0 where
  size : NotListed note.p → BadNote note
  count : BadCount note.p note.n → BadNote note
  degree : BadDegree note.n note.k → BadNote note
  heights : BadHeights note.m note.l → BadNote note
  row : (note.r < 1) ⊎ (suc note.l < note.r) → BadNote note

abbrev pub shape_of : Note → Shape
shape_of note = shape note.p note.n note.k note.m note.l

pub record AsLeft (S : Shape) (r : ℕ) (xs : List ℕ) : Type 0 where
  pub below : TooLarge S.p (take (rows_bytes S) xs) → ⊥
  pub sound : Sound (symbols S.p).ring S.u S.width S.l r (rows_of S xs)

abbrev pub at_row : Note → ℕ → Note
at_row note r = record { p = note.p; n = note.n; k = note.k; m = note.m; l = note.l; r = r }

abbrev pub no_note : Note
no_note = record { p = 0; n = 0; k = 0; m = 0; l = 0; r = 0 }

-- what the jobs hand back; Results says which number and values stand for each case

pub record Started : Type 0 where
  pub number : ℕ
  pub note : Note

pub record Turned : Type 0 where
  pub number : ℕ
  pub note : Note
  pub updates : ℕ

pub record Made : Type 0 where
  pub number : ℕ
  pub updates : ℕ

pub record Finished : Type 0 where
  pub number : ℕ
  pub weight : ℕ
  pub height : ℕ

-- start

-- the refusals of a request, before that of the lent bytes
abbrev pub request_table : ℕ → List ℕ → List ℕ → ℕ → ℕ → ℕ → List Refusal
request_table p points word k m l =
    record { number = 1; applies = NotListed p } ∷
    record { number = 2; applies = BadCount p (length points) } ∷
    record { number = 3; applies = length word ≡ length points → ⊥ } ∷
    record { number = 4; applies = BadDegree (length points) k } ∷
    record { number = 5; applies = BadHeights m l } ∷
    record { number = 6; applies = TooLarge p points ⊎ TooLarge p word } ∷
    record { number = 7; applies = Repeated points } ∷
    []

abbrev pub start_table : ℕ → List ℕ → List ℕ → ℕ → ℕ → ℕ → List ℕ → List Refusal
start_table p points word k m l rows =
    request_table p points word k m l ++
    record { number = 9; applies = TooShort (rows_bytes (shape p (length points) k m l)) rows } ∷
    []

pub record HoldsStart (p : ℕ) (points word : List ℕ) (k m l : ℕ) (rows : List ℕ) : Type 0 where
  pub h : Seq (symbols p).ring
  pub through : Through (symbols p).ring (length points) (symbols_of p points) (symbols_of p word) h
  pub holds : Holds (shape p (length points) k m l) rows
      (start_row (symbols p).ring m (locator (symbols p).ring (length points) (symbols_of p points)) h)

pub record HasStarted (p : ℕ) (points word : List ℕ) (k m l : ℕ) (before after : List ℕ) (back : Started) : Type 0 where
  pub first : First (start_table p points word k m l before) back.number
  pub note : back.number ≡ 0 → back.note ≡ record { p = p; n = length points; k = k; m = m; l = l; r = 1 }
  pub rows : back.number ≡ 0 → HoldsStart p points word k m l after
  pub rest : Untouched (rows_bytes (shape p (length points) k m l)) before after
  pub refused : (back.number ≡ 0 → ⊥) → (back.note ≡ no_note) × (after ≡ before)

-- turn

abbrev pub turn_table : Note → List ℕ → List Refusal
turn_table note rows =
    record { number = 10; applies = BadNote note } ∷
    record { number = 9; applies = TooShort (rows_bytes (shape_of note)) rows } ∷
    record { number = 11; applies = AsLeft (shape_of note) note.r rows → ⊥ } ∷
    []

pub record Goes (note : Note) (allowance : ℕ) (before after : List ℕ) (back : Turned) : Type 0 where
  pub outcome : Outcome (symbols note.p)
  pub turn : Turn (symbols note.p) (note.k - 1) note.l allowance (rows_of (shape_of note) before) note.r outcome
  pub number : back.number ≡ outcome.number
  pub next : back.note ≡ at_row note outcome.row
  pub updates : back.updates ≡ outcome.updates
  pub rows : Holds (shape_of note) after outcome.rows

pub record HasTurned (note : Note) (allowance : ℕ) (before after : List ℕ) (back : Turned) : Type 0 where
  pub entry : ℕ
  pub first : First (turn_table note before) entry
  pub goes : entry ≡ 0 → Goes note allowance before after back
  pub rest : Untouched (rows_bytes (shape_of note)) before after
  pub refused : (entry ≡ 0 → ⊥) → (back.number ≡ entry) × (back.note ≡ note) × (back.updates ≡ 0) × (after ≡ before)

abbrev pub with_note : Made → Note → Turned
with_note made note = record { number = made.number; note = note; updates = made.updates }

-- finish

abbrev pub finish_table : Note → List ℕ → List ℕ → List Refusal
finish_table note rows curve =
    record { number = 10; applies = BadNote note } ∷
    record { number = 9; applies = TooShort (rows_bytes (shape_of note)) rows ⊎ TooShort (curve_bytes (shape_of note)) curve } ∷
    record { number = 12; applies = note.r < suc note.l } ∷
    record { number = 11; applies = AsLeft (shape_of note) note.r rows → ⊥ } ∷
    []

pub record Hands (S : Shape) (rows : ℕ → Curve (symbols S.p).ring) (curve : List ℕ) (weight height : ℕ) : Type 0 where
  pub row : ℕ
  pub lightest : Lightest (symbols S.p).ring S.u S.l rows row weight
  pub bytes : HoldsCurve S curve (monic (symbols S.p) row lightest.lead.degree (rows row))
  pub tall : HasHeight (symbols S.p).ring (rows row) height

pub record HasFinished (note : Note) (rows before after : List ℕ) (back : Finished) : Type 0 where
  pub first : First (finish_table note rows before) back.number
  pub curve : back.number ≡ 0 → Hands (shape_of note) (rows_of (shape_of note) rows) after back.weight back.height
  pub rest : Untouched (curve_bytes (shape_of note)) before after
  pub refused : (back.number ≡ 0 → ⊥) → (back.weight ≡ 0) × (back.height ≡ 0) × (after ≡ before)
