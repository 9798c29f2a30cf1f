-- Demands 2 and 3 as statements about what the jobs hand back. Rules: section 21.
--   Request        what start is given
--   ring_for q, shape_for q, note_for q r  its symbols, the numbers by which its bytes are read, and its note with r as the current row
--   updates_bound q the formula
--   Member q Q     Q is zero or one of the curves of demand 2
--   Begun          start accepts the request
--   Driven         such a start, then any number of turns, each on the rows that the last one left and with the note that it gave
--   Pause          what holds at every pause (demand 3)
--   HandsCurve     finish hands over the curve of demand 2, with its weight and height
use Rattle.std.specs.Prelude.{◌≡◌, ◌↔◌, List, ℕ, suc, ◌+◌, ◌-◌, ◌≤◌, ◌<◌, length}
use Rattle.field.specs.Field.{Ring}
use Rattle.field.specs.Symbols.{symbols, symbols_of}
use Rattle.curves.specs.Curves.{Curve, HasHeight, LeadsAt, Span, Passing}
use Rattle.curves.specs.Start.{formula}
use Rattle.rows.specs.Bytes.{shape, curve_bytes, rows_of, HoldsCurve}
use Rattle.rows.specs.Jobs.{TheCurve, HasStarted, HasTurned, HasFinished}
use Rattle.rows.specs.Jobs.{Started, Turned, Finished}
use Rattle.rows.specs.declared.Note.{Note}
use Rattle.rows.specs.declared.Shape.{Shape}

pub record Request : Type 0 where
  pub p : ℕ
  pub points : List ℕ
  pub word : List ℕ
  pub k : ℕ
  pub m : ℕ
  pub l : ℕ

module _ (q : Request) where
  abbrev pub ring_for : Ring
  ring_for = (symbols q.p).ring

  abbrev pub shape_for : Shape
  shape_for = shape q.p (length q.points) q.k q.m q.l

  abbrev pub note_for : ℕ → Note
  note_for r = record { p = q.p; n = length q.points; k = q.k; m = q.m; l = q.l; r = r }

  abbrev pub updates_bound : ℕ
  updates_bound = formula (length q.points) q.k q.m q.l

  abbrev pub Member : Curve ring_for → Type 0
  Member = Passing ring_for (length q.points) q.m q.l (symbols_of q.p q.points) (symbols_of q.p q.word)

  abbrev pub Begun : List ℕ → List ℕ → Started → Type 0
  Begun before after back = HasStarted q.p q.points q.word q.k q.m q.l before after back × (back.number ≡ 0)

  -- the allowances so far added up, the rows' bytes, the note, and the updates so far added up
  pub data Driven : ℕ → List ℕ → Note → ℕ → Type 0 where
    started : {before after : List ℕ} {back : Started} → Begun before after back → Driven 0 after back.note 0
    turned : {allowed total : ℕ} {before after : List ℕ} {note : Note} {back : Turned} (allowance : ℕ) → Driven allowed before note total
        → HasTurned note allowance before after back → Driven (allowed + allowance) after back.note (total + back.updates)

  pub record HandsCurve (curve : List ℕ) (back : Finished) : Type 0 where
    pub done : back.number ≡ 0
    pub Q : Curve ring_for
    pub smallest : TheCurve q.p q.points q.word q.k q.m q.l Q
    pub only : (P : Curve ring_for) → TheCurve q.p q.points q.word q.k q.m q.l P → P ≡ Q
    pub bytes : HoldsCurve shape_for curve Q
    pub weight : back.weight ≡ smallest.weight
    pub light : smallest.weight ≤ shape_for.width
    pub height : HasHeight ring_for Q back.height

  pub record Pause (allowed : ℕ) (rows : List ℕ) (note : Note) (total : ℕ) : Type 0 where
    -- the next turn, whatever its allowance, is accepted and goes by the rule to its end: the late 11 does not come
    pub accepted : (allowance : ℕ) (after : List ℕ) (back : Turned) → HasTurned note allowance rows after back → back.number ≡ 0
    pub numbers : note ≡ note_for note.r
    -- the rows, times polynomials in x and summed, are exactly the curves of demand 2, with zero
    pub generated : (Q : Curve ring_for) → Span ring_for (suc q.l) (rows_of shape_for rows) Q ↔ Member Q
    -- each row before the current one leads in its own power of y
    pub leads : (i : ℕ) → i < note.r → LeadsAt ring_for (q.k - 1) i (rows_of shape_for rows i)
    pub bounded : total ≤ updates_bound
    pub finished : updates_bound ≤ allowed → note.r ≡ suc q.l
    pub curve : note.r ≡ suc q.l → (before after : List ℕ) (back : Finished) → HasFinished note rows before after back
        → curve_bytes shape_for ≤ length before → HandsCurve after back
