-- What `HasStarted`, `HasTurned` and `HasFinished` say fixes what each job hands back and every byte lent: two outcomes for the same arguments
-- are the same. The numbers and values of a job's result tell that result, so its results are the same too.
use mathlib.Core.Path.{◌≡◌, sym, ap₂, ◌∙◌, ap}
use mathlib.Core.List.{List}
use Prim.Native.Nat.{ℕ, ◌<◌}
use native.Mathlib.Decide.{ℕ_discrete}
use lib.ListN.{length, get_or}
use Rattle.field.specs.Symbols.{symbols}
use Rattle.std.specs.Prelude.{Result, Ok, Err}
use Rattle.poly.specs.Buffers.{Places}
use Rattle.poly.specs.declared.refused.Refused.{Refused}
use Rattle.poly.proofs.RefusalLaws.{outcome-determines, number_of-determines, number_of-positive}
use Rattle.poly.proofs.TableLaws.{first_determined}
use Rattle.poly.proofs.Interpolating.{places-only}
use Rattle.poly.proofs.BufferLaws.{untouched_unique}
use Rattle.curves.specs.Turns.{Outcome}
use Rattle.curves.specs.Curves.{Curve}
use Rattle.curves.proofs.Determined.{rule_determined}
use Rattle.curves.proofs.Heights.{height_unique}
use Rattle.curves.proofs.Leads.{lead-degree}
use Rattle.curves.proofs.Least.{lightest_unique}
use Rattle.rows.specs.Bytes.{shape, rows_bytes, curve_bytes}
use Rattle.rows.specs.Jobs.{start_table, HoldsStart, HasStarted, shape_of, at_row, turn_table, Goes, HasTurned, with_note}
use Rattle.rows.specs.Jobs.{finish_table, Hands, HasFinished}
use Rattle.rows.specs.Jobs.{Started, Turned, Made, Finished}
use Rattle.rows.specs.Results.{started, turned, made, finished}
use Rattle.rows.specs.declared.Turned.{Turned as TurnedBack}
use Rattle.rows.specs.declared.Made.{Made as MadeBack}
use Rattle.rows.specs.declared.Finished.{Finished as FinishedBack}
use Rattle.rows.specs.declared.Note.{Note}
use Rattle.rows.specs.declared.Shape.{Shape}
use Rattle.rows.proofs.Placing.{in-rows, in-curve}
use Rattle.rows.proofs.Accepted.{Accepted, start-accepted}

-- what start hands back is the same where its fields are
pub started-same : {a b : Started} → a.number ≡ b.number → a.note ≡ b.note → a ≡ b
started-same e d = ap₂ (λ (x : ℕ) (y : Note). record { number = x; note = y }) e d

-- the bytes of the starting rows are fixed
pub start-bytes : {p : ℕ} {points word : List ℕ} {k m l : ℕ} {xs ys : List ℕ} → Places p points word → HoldsStart p points word k m l xs
    → HoldsStart p points word k m l ys
    → (q : ℕ) → q < rows_bytes (shape p (length points) k m l) → get_or xs q 0 ≡ get_or ys q 0
start-bytes {p} {points} {k = k} {m} {l} P f g q h =
    let r = in-rows (shape p (length points) k m l) h in
    rw r.is
    (f.holds r.row r.power r.degree r.inside r.low r.short
    ∙ sym (rw (places-only P g.through f.through) at g.holds r.row r.power r.degree r.inside r.low r.short))

-- two outcomes of start for the same arguments are the same
module _ {p : ℕ} {points word : List ℕ} {k m l : ℕ} {before : List ℕ} where
  pub start_determined : {after also : List ℕ} {back other : Started} → HasStarted p points word k m l before after back
      → HasStarted p points word k m l before also other → (back ≡ other) × (after ≡ also)
  start_determined {after} {also} {back} {other} f g = go (ℕ_discrete back.number 0)
    where
      same : back.number ≡ other.number
      same = first_determined (start_table p points word k m l before) back.number other.number f.first g.first

      byte : back.number ≡ 0 → (q : ℕ) → q < rows_bytes (shape p (length points) k m l) → get_or after q 0 ≡ get_or also q 0
      byte z q h =
          let a : Accepted p points word k m l before = start-accepted f.first z in
          start-bytes a.places (f.rows z) (g.rows (sym same ∙ z)) q h

      go : Dec (back.number ≡ 0) → (back ≡ other) × (after ≡ also)
      go (yes z) = (
        started-same same (f.note z ∙ sym (g.note (sym same ∙ z))),
        untouched_unique (rows_bytes (shape p (length points) k m l)) f.rest g.rest (byte z),
      )
      go (no z) =
          let x = f.refused z in
          let y = g.refused (λ e. z (same ∙ e)) in
          (started-same same (x.0 ∙ sym y.0), x.1 ∙ sym y.1)

-- and what a turn hands back
pub turned-same : {a b : Turned} → a.number ≡ b.number → a.note ≡ b.note → a.updates ≡ b.updates → a ≡ b
turned-same {a} {b} n m u =
    ap (λ (x : ℕ). record { number = x; note = a.note; updates = a.updates }) n
    ∙ ap₂ (λ (x : Note) (y : ℕ). record { number = b.number; note = x; updates = y }) m u

-- where the rule leaves the same, so does the turn, whatever its allowance and the bytes that it was given
module _ {note : Note} {allowance other : ℕ} {before start after also : List ℕ} {a b : Turned} (f : Goes note allowance before after a)
    (g : Goes note other start also b) (e : f.outcome ≡ g.outcome) where
  pub goes-same : a ≡ b
  goes-same =
      turned-same
      (f.number ∙ ap (λ (o : Outcome (symbols note.p)). o.number) e ∙ sym g.number)
      (f.next ∙ ap (λ (o : Outcome (symbols note.p)). at_row note o.row) e ∙ sym g.next)
      (f.updates ∙ ap (λ (o : Outcome (symbols note.p)). o.updates) e ∙ sym g.updates)

  pub goes-bytes : {q : ℕ} → q < rows_bytes (shape_of note) → get_or after q 0 ≡ get_or also q 0
  goes-bytes {q} k =
      let p = in-rows (shape_of note) k in
      rw p.is (f.rows p.row p.power p.degree p.inside p.low p.short
      ∙ ap (λ (o : Outcome (symbols note.p)). (o.rows p.row p.power p.degree).byte) e
      ∙ sym (g.rows p.row p.power p.degree p.inside p.low p.short))

-- two outcomes of a turn for the same note, allowance and rows are the same
module _ {note : Note} {allowance : ℕ} {before : List ℕ} where
  pub turn_determined : {after also : List ℕ} {a b : Turned} → HasTurned note allowance before after a → HasTurned note allowance before also b
      → (a ≡ b) × (after ≡ also)
  turn_determined {after} {also} {a} {b} f g = go (ℕ_discrete f.entry 0)
    where
      same : f.entry ≡ g.entry
      same = first_determined (turn_table note before) f.entry g.entry f.first g.first

      go : Dec (f.entry ≡ 0) → (a ≡ b) × (after ≡ also)
      go (no n) =
          let x = f.refused n in
          let y = g.refused (λ e. n (same ∙ e)) in
          (turned-same (x.0 ∙ same ∙ sym y.0) (x.1 ∙ sym y.1) (x.2 ∙ sym y.2), x.3 ∙ sym y.3)
      go (yes e) = (goes-same x y left, untouched_unique (rows_bytes (shape_of note)) f.rest g.rest (λ q k. goes-bytes x y left k))
        where
          x : Goes note allowance before after a
          x = f.goes e

          y : Goes note allowance before also b
          y = g.goes (sym same ∙ e)

          left : x.outcome ≡ y.outcome
          left = rule_determined x.turn y.turn

  -- so are two outcomes of a turn in place
  pub in-place_determined : {after also : List ℕ} {m k : Made} {o p : Note} → HasTurned note allowance before after (with_note m o)
      → HasTurned note allowance before also (with_note k p)
      → (m ≡ k) × (o ≡ p) × (after ≡ also)
  in-place_determined f g =
      let e = turn_determined f g in
      (ap (λ (t : Turned). record { number = t.number; updates = t.updates }) e.0, ap (λ (t : Turned). t.note) e.0, e.1)

-- what finish hands over is only one
module _ {S : Shape} {rows : ℕ → Curve (symbols S.p).ring} {curve also : List ℕ} {w h v g : ℕ} (a : Hands S rows curve w h)
    (b : Hands S rows also v g) where
  hands-same : (a.row ≡ b.row) × (w ≡ v)
  hands-same = lightest_unique a.lightest b.lightest

  hands-height : h ≡ g
  hands-height = height_unique _ a.tall (rw (← hands-same.0) at b.tall)

  hands-bytes : {q : ℕ} → q < curve_bytes S → get_or curve q 0 ≡ get_or also q 0
  hands-bytes {q} k =
      let c = in-curve S k in
      let e = hands-same in
      rw c.is
      (rw (lead-degree a.lightest.lead) at (a.bytes c.power c.degree c.low c.short)
      ∙ rw (e.0, e.1) (sym (rw (lead-degree b.lightest.lead) at (b.bytes c.power c.degree c.low c.short))))

-- and what it hands back is the same where its fields are
pub finished-same : {a b : Finished} → a.number ≡ b.number → a.weight ≡ b.weight → a.height ≡ b.height → a ≡ b
finished-same {a} {b} n w h =
    ap (λ (x : ℕ). record { number = x; weight = a.weight; height = a.height }) n
    ∙ ap₂ (λ (x y : ℕ). record { number = b.number; weight = x; height = y }) w h

-- two outcomes of finish for the same arguments are the same
module _ {note : Note} {rows before : List ℕ} where
  pub finish_determined : {after also : List ℕ} {a b : Finished} → HasFinished note rows before after a → HasFinished note rows before also b
      → (a ≡ b) × (after ≡ also)
  finish_determined {after} {also} {a} {b} f g = go (ℕ_discrete a.number 0)
    where
      same : a.number ≡ b.number
      same = first_determined (finish_table note rows before) a.number b.number f.first g.first

      go : Dec (a.number ≡ 0) → (a ≡ b) × (after ≡ also)
      go (no n) =
          let x = f.refused n in
          let y = g.refused (λ e. n (same ∙ e)) in
          (finished-same same (x.0 ∙ sym y.0) (x.1 ∙ sym y.1), x.2 ∙ sym y.2)
      go (yes e) =
          let x = f.curve e in
          let y = g.curve (sym same ∙ e) in (
            finished-same same (hands-same x y).1 (hands-height x y),
            untouched_unique (curve_bytes (shape_of note)) f.rest g.rest (λ q k. hands-bytes x y k),
          )

-- the numbers and values of a result tell it
pub started-determines : (a b : Result Note Refused) → started a ≡ started b → a ≡ b
started-determines (Ok x) (Ok y) e = ap (λ (s : Started). Ok s.note) e
started-determines (Ok x) (Err b) e = absurd (number_of-positive b (sym (ap (λ (s : Started). s.number) e)))
started-determines (Err a) (Ok y) e = absurd (number_of-positive a (ap (λ (s : Started). s.number) e))
started-determines (Err a) (Err b) e = ap Err (number_of-determines a b (ap (λ (s : Started). s.number) e))

pub turned-determines : (a b : TurnedBack) → turned a ≡ turned b → a ≡ b
turned-determines a b e =
    ap (λ (x : Result Unit Refused). record { outcome = x; note = a.note; updates = a.updates })
    (outcome-determines a.outcome b.outcome (ap (λ (t : Turned). t.number) e))
    ∙ ap (λ (t : Turned). record { outcome = b.outcome; note = t.note; updates = t.updates }) e

pub made-determines : (a b : MadeBack) → made a ≡ made b → a ≡ b
made-determines a b e =
    ap (λ (x : Result Unit Refused). record { outcome = x; updates = a.updates })
    (outcome-determines a.outcome b.outcome (ap (λ (t : Made). t.number) e))
    ∙ ap (λ (t : Made). record { outcome = b.outcome; updates = t.updates }) e

pub finished-determines : (a b : Result FinishedBack Refused) → finished a ≡ finished b → a ≡ b
finished-determines (Ok x) (Ok y) e = ap (λ (f : Finished). Ok (record { weight = f.weight; height = f.height })) e
finished-determines (Ok x) (Err b) e = absurd (number_of-positive b (sym (ap (λ (f : Finished). f.number) e)))
finished-determines (Err a) (Ok y) e = absurd (number_of-positive a (ap (λ (f : Finished). f.number) e))
finished-determines (Err a) (Err b) e = ap Err (number_of-determines a b (ap (λ (f : Finished). f.number) e))

-- so two outcomes of a job for the same arguments are the same result
pub start_result_determined : {p : ℕ} {points word : List ℕ} {k m l : ℕ} {before after also : List ℕ} (a b : Result Note Refused)
    → HasStarted p points word k m l before after (started a) → HasStarted p points word k m l before also (started b)
    → (a ≡ b) × (after ≡ also)
start_result_determined a b f g = let (e, bytes) = start_determined f g in (started-determines a b e, bytes)

pub turn_result_determined : {note : Note} {allowance : ℕ} {before after also : List ℕ} (a b : TurnedBack)
    → HasTurned note allowance before after (turned a) → HasTurned note allowance before also (turned b) → (a ≡ b) × (after ≡ also)
turn_result_determined a b f g = let (e, bytes) = turn_determined f g in (turned-determines a b e, bytes)

pub in-place_result_determined : {note : Note} {allowance : ℕ} {before after also : List ℕ} {o p : Note} (a b : MadeBack)
    → HasTurned note allowance before after (with_note (made a) o) → HasTurned note allowance before also (with_note (made b) p)
    → (a ≡ b) × (o ≡ p) × (after ≡ also)
in-place_result_determined a b f g = let e = in-place_determined {m = made a} {k = made b} f g in (made-determines a b e.0, e.1, e.2)

pub finish_result_determined : {note : Note} {rows before after also : List ℕ} (a b : Result FinishedBack Refused)
    → HasFinished note rows before after (finished a) → HasFinished note rows before also (finished b) → (a ≡ b) × (after ≡ also)
finish_result_determined a b f g = let (e, bytes) = finish_determined f g in (finished-determines a b e, bytes)
