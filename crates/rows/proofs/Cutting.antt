-- However the work is cut: all turns from a start are one turn with their allowances added up, so two ways of cutting with the same sum leave
-- the same rows and the same note, and make as many updates; and so do all ways that come to the end.
use mathlib.Core.Path.{◌≡◌, refl, sym, ap, subst, ◌∙◌}
use mathlib.Core.List.{List}
use Prim.Native.Nat.{ℕ, suc, ◌+◌, ◌-◌, ◌<◌}
use native.Mathlib.Nat.{zero-add}
use native.Mathlib.Omega.{arith}
use lib.ListN.{get_or}
use Rattle.field.specs.Symbols.{symbols}
use Rattle.curves.specs.Turns.{Turn}
use Rattle.curves.proofs.Determined.{rule_determined, end_determined}
use Rattle.rows.specs.Bytes.{rows_bytes, rows_of, place}
use Rattle.rows.specs.Jobs.{Goes, HasTurned}
use Rattle.rows.specs.Jobs.{Started, Turned}
use Rattle.rows.specs.Work.{Ready}
use Rattle.rows.specs.Demands.{Request, shape_for, note_for, Begun, Driven, started, turned}
use Rattle.rows.specs.declared.Note.{Note}
use Rattle.rows.proofs.Placing.{place-inside, holds-own}
use Rattle.rows.proofs.Accepted.{Accepted, start-accepted}
use Rattle.rows.proofs.HeldRows.{rows_of-flat, holds-flat}
use Rattle.rows.proofs.Going.{turn-ready}
use Rattle.rows.proofs.Determined.{start-bytes, turned-same, goes-same, goes-bytes}
use Rattle.rows.proofs.Turning.{done-entry, turned-then}
use Rattle.rows.proofs.Demands.{demand_3}

-- what a turn hands back that is answered with 0
abbrev made : Note → ℕ → Turned
made note updates = record { number = 0; note = note; updates = updates }

-- a start, and all turns since as one
data Once (q : Request) : ℕ → List ℕ → Note → ℕ → Type 0 where
  none : {before after : List ℕ} {back : Started} → Begun q before after back → Once q 0 after back.note 0
  once : {allowed total : ℕ} {before filled rows : List ℕ} {note : Note} {back : Started} → Begun q before filled back
      → HasTurned back.note allowed filled rows (made note total) → Once q allowed rows note total

-- the note, the updates and the rows are the same
abbrev Alike : Request → List ℕ → Note → ℕ → List ℕ → Note → ℕ → Type 0
Alike q rows note total rows' note' total' =
    (note ≡ note') × (total ≡ total') × ((i : ℕ) → i < rows_bytes (shape_for q) → get_or rows i 0 ≡ get_or rows' i 0)

module _ {q : Request} where
  once-more : {allowed total a updates : ℕ} {before after : List ℕ} {note next : Note} → Once q allowed before note total
      → HasTurned note a before after (made next updates) → Once q (allowed + a) after next (total + updates)
  once-more {a = a} {updates} (none b) t = rw (zero-add a, zero-add updates) (once b t)
  once-more (once b f) t = once b (turned-then f refl t)

  module _ {allowed other total total' : ℕ} {filled new lent also rows rows' : List ℕ} {note note' : Note} {one two : Started}
      (b : Begun q lent filled one) (c : Begun q also new two) (f : HasTurned (note_for q 1) allowed filled rows (made note total))
      (g : HasTurned (note_for q 1) other new rows' (made note' total')) where
    ready : Ready (note_for q 1) filled
    ready = turn-ready f.first (done-entry f refl)

    -- both starts filled the same rows
    filled-same : rows_of (shape_for q) new ≡ rows_of (shape_for q) filled
    filled-same =
        let accepted : Accepted q.p q.points q.word q.k q.m q.l also = start-accepted c.0.first c.1 in
        holds-flat (shape_for q) new (rows_of (shape_for q) filled)
        (λ i j e k m n.
        start-bytes accepted.places (c.0.rows c.1) (b.0.rows b.1) (place (shape_for q) i j e) (place-inside (shape_for q) k m n)
        ∙ holds-own ready.bytes i j e k m n)
        (rows_of-flat (shape_for q) filled) ready.sound.light

    one-goes : Goes (note_for q 1) allowed filled rows (made note total)
    one-goes = f.goes (done-entry f refl)

    two-goes : Goes (note_for q 1) other new rows' (made note' total')
    two-goes = g.goes (done-entry g refl)

    two-turn : Turn (symbols q.p) (q.k - 1) q.l other (rows_of (shape_for q) filled) 1 two-goes.outcome
    two-turn = rw filled-same at two-goes.turn

    left_alike : one-goes.outcome ≡ two-goes.outcome → Alike q rows note total rows' note' total'
    left_alike e =
        let same = goes-same one-goes two-goes e in
        (ap (λ (t : Turned). t.note) same, ap (λ (t : Turned). t.updates) same, λ i k. goes-bytes one-goes two-goes e k)

    -- at the end whatever the allowances were
    ends_alike : note.r ≡ suc q.l → note'.r ≡ suc q.l → Alike q rows note total rows' note' total'
    ends_alike e d =
        left_alike (end_determined one-goes.turn (sym (ap (λ (x : Note). x.r) one-goes.next) ∙ e) two-turn
        (sym (ap (λ (x : Note). x.r) two-goes.next) ∙ d))

  once_alike : {allowed total total' : ℕ} {rows rows' : List ℕ} {note note' : Note} → 0 < allowed → Once q allowed rows note total
      → Once q allowed rows' note' total' → Alike q rows note total rows' note' total'
  once_alike h (none b) y = absurd (omega arith)
  once_alike h (once b f) (none c) = absurd (omega arith)
  once_alike h (once b f) (once c g) =
      let x = rw (b.0.note b.1) at f in
      let y = rw (c.0.note c.1) at g in
      left_alike b c x y (rule_determined (one-goes b c x y).turn (two-turn b c x y))

  -- a start alone has not come to the end
  none-ends : {before after : List ℕ} {back : Started} → Begun q before after back → back.note.r ≡ suc q.l → ⊥
  none-ends {before} b e =
      let accepted : Accepted q.p q.points q.word q.k q.m q.l before = start-accepted b.0.first b.1 in
      let some = accepted.heights.some in
      let order = accepted.heights.order in
      let r = ap (λ (x : Note). x.r) (b.0.note b.1) in
      omega arith

  once-ends : {allowed other total total' : ℕ} {rows rows' : List ℕ} {note note' : Note} → Once q allowed rows note total
      → Once q other rows' note' total' → note.r ≡ suc q.l → note'.r ≡ suc q.l → Alike q rows note total rows' note' total'
  once-ends (none b) y e d = absurd (none-ends b e)
  once-ends (once b f) (none c) e d = absurd (none-ends c d)
  once-ends (once b f) (once c g) e d = ends_alike b c (rw (b.0.note b.1) at f) (rw (c.0.note c.1) at g) e d

  driven-once : {allowed total : ℕ} {rows : List ℕ} {note : Note} → Driven q allowed rows note total → Once q allowed rows note total
  driven-once (started b) = none b
  driven-once (turned {after = after} {back = back} a d t) =
      let is : back ≡ made back.note back.updates = turned-same ((demand_3 q d).accepted a after back t) refl refl in
      once-more (driven-once d) (subst (HasTurned _ a _ after) is t)

  -- the same sum, not zero, leaves the same, whatever bytes were lent
  pub driven_alike : {allowed total total' : ℕ} {rows rows' : List ℕ} {note note' : Note} → 0 < allowed
      → Driven q allowed rows note total → Driven q allowed rows' note' total'
      → (note ≡ note') × (total ≡ total') × ((i : ℕ) → i < rows_bytes (shape_for q) → get_or rows i 0 ≡ get_or rows' i 0)
  driven_alike h d e = once_alike h (driven-once d) (driven-once e)

  -- and all ways that come to the end do, whatever their sums
  pub driven-ends : {allowed other total total' : ℕ} {rows rows' : List ℕ} {note note' : Note} → Driven q allowed rows note total
      → Driven q other rows' note' total' → note.r ≡ suc q.l → note'.r ≡ suc q.l
      → (note ≡ note') × (total ≡ total') × ((i : ℕ) → i < rows_bytes (shape_for q) → get_or rows i 0 ≡ get_or rows' i 0)
  driven-ends d e = once-ends (driven-once d) (driven-once e)
