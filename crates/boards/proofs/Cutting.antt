-- However the work is cut into calls: two turns one after the other are one turn with both allowances, and two ways of cutting with the same
-- sum, or that both come to the end, leave the same note and rows.
use mathlib.Core.Path.{◌≡◌, refl, sym, ap, ap₂, subst, ◌∙◌}
use mathlib.Core.List.{List}
use Prim.Native.Nat.{ℕ, suc, ◌+◌, ◌<◌, ◌≤◌}
use lib.ListN.{length, get_or}
use Rattle.rows.specs.Bytes.{rows_bytes}
use Rattle.rows.specs.Demands.{Request, shape_for}
use Rattle.rows.specs.Jobs.{Turned}
use Rattle.rows.proofs.Turning.{turned-then}
use Rattle.rows.proofs.Cutting.{driven_alike, driven-ends}
use Rattle.boards.specs.declared.Back.{Back}
use Rattle.boards.specs.Lent.{note_bytes, back_bytes, note_of, note_into, back_into, updates_of}
use Rattle.boards.specs.Calls.{TurnCall, DrivenCalls}
use Rattle.boards.proofs.LentLaws.{note-kept, note-long, note-last, updates-kept}
use Rattle.boards.proofs.Calling.{turn_job, turn-done}
use Rattle.boards.proofs.Driving.{calls_driven}

abbrev updates_back : ℕ → Back
updates_back updates = record { updates = updates; weight = 0; height = 0; count = 0 }

pub calls-then : {a b number : ℕ} {note note' note'' rows rows' rows'' back back' last last' : List ℕ} → note_bytes ≤ length note
    → back_bytes ≤ length back → back_bytes ≤ length last
    → TurnCall a note note' rows rows' back back' 0 → TurnCall b note' note'' rows' rows'' last last' number
    → (back'' : List ℕ) × TurnCall (a + b) note note'' rows rows'' back back'' number × (updates_of back'' ≡ updates_of back' + updates_of last')
calls-then {a} {b} {number} {note} {note'} {note''} {rows} {rows'} {rows''} {back} {back'} {last} {last'} long room more first second =
    let (one, Has-one, zero-is, note_is, back_is) = turn_job long room first in
    let long' : note_bytes ≤ length note' = rw (note_is, note-long one.note note) long in
    let (two, has-two, number_is, next-is, last-is) = turn_job long' more second in
    let read : note_of note' ≡ one.note = ap note_of note_is ∙ note-kept one.note note long in
    let job : Turned = record { number = two.number; note = two.note; updates = one.updates + two.updates } in
    let has = turned-then Has-one (sym zero-is) (rw read at has-two) in
    let next = next-is ∙ ap (λ xs. note_into two.note xs) note_is ∙ note-last two.note one.note note long in
    let call : TurnCall (a + b) note note'' rows rows'' back (back_into (updates_back (one.updates + two.updates)) back) job.number =
    turn-done long room has next refl in
    let sum =
    updates-kept (updates_back (one.updates + two.updates)) back room
    ∙ sym (ap₂ (λ (x y : ℕ). x + y) (ap updates_of back_is ∙ updates-kept (updates_back one.updates) back room)
    (ap updates_of last-is ∙ updates-kept (updates_back two.updates) last more)) in
    (back_into (updates_back (one.updates + two.updates)) back, subst (TurnCall (a + b) note note'' rows rows'' back _) (sym number_is) call, sum)

pub calls_alike : {q : Request} {allowed total total' : ℕ} {rows rows' note note' : List ℕ} → 0 < allowed
    → DrivenCalls q allowed rows note total → DrivenCalls q allowed rows' note' total'
    → (note_of note ≡ note_of note') × (total ≡ total') × ((i : ℕ) → i < rows_bytes (shape_for q) → get_or rows i 0 ≡ get_or rows' i 0)
calls_alike h d e = driven_alike h (calls_driven d).1 (calls_driven e).1

pub calls-end : {q : Request} {allowed other total total' : ℕ} {rows rows' note note' : List ℕ} → DrivenCalls q allowed rows note total
    → DrivenCalls q other rows' note' total' → (note_of note).r ≡ suc q.l → (note_of note').r ≡ suc q.l
    → (note_of note ≡ note_of note') × (total ≡ total') × ((i : ℕ) → i < rows_bytes (shape_for q) → get_or rows i 0 ≡ get_or rows' i 0)
calls-end d e = driven-ends (calls_driven d).1 (calls_driven e).1
