-- Demand 3 holds of the calls too: calls on lent bytes are a start and turns of the jobs, since what a call writes into a note is what
-- the next one reads there.
use mathlib.Core.Path.{◌≡◌, refl, sym, ap, ap₂, ◌∙◌}
use mathlib.Core.Logic.{inr}
use mathlib.Core.List.{List}
use Prim.Native.Nat.{ℕ, ◌+◌, ◌<◌, ◌≤◌}
use native.Mathlib.Omega.{arith}
use lib.ListN.{length}
use borrow.Author.Rules.{rules}
use Rattle.poly.proofs.TableLaws.{first-passed}
use Rattle.rows.specs.Jobs.{HasTurned}
use Rattle.rows.specs.Demands.{Request, Begun, Driven}
use Rattle.rows.specs.Jobs.{Started, Turned}
use Rattle.rows.proofs.Demands.{demand_3}
use Rattle.boards.specs.Lent.{note_bytes, back_bytes, note_of, note_into, back_of_turn, back_of_finish, back_into, updates_of, finished_of}
use Rattle.boards.specs.Calls.{start_call_table, StartCall, DrivenCalls, PauseCalls}
use Rattle.boards.proofs.LentLaws.{note-kept, note-long, updates-kept, finished-kept}
use Rattle.boards.proofs.Calling.{turn_job, finish_job}

module _ {q : Request} where
  start_driven : (note : List ℕ) {rows rows' note' : List ℕ} {job : Started} → note_bytes ≤ length note → Begun q rows rows' job
      → note' ≡ note_into job.note note → (note_bytes ≤ length note') × Driven q 0 rows' (note_of note') 0
  start_driven note {job = job} long begun e =
      (rw (e, note-long job.note note) long, rw (ap note_of e ∙ note-kept job.note note long) (Driven.started begun))

  turn_driven : (note back : List ℕ) {sum made allowance : ℕ} {rows rows' note' back' : List ℕ} {job : Turned} → note_bytes ≤ length note
      → back_bytes ≤ length back → Driven q sum rows (note_of note) made → HasTurned (note_of note) allowance rows rows' job
      → note' ≡ note_into job.note note → back' ≡ back_into (back_of_turn job) back
      → (note_bytes ≤ length note') × Driven q (sum + allowance) rows' (note_of note') (made + updates_of back')
  turn_driven note back {allowance = allowance} {job = job} long room driven has e b =
      let made = ap updates_of b ∙ updates-kept (back_of_turn job) back room in
      let next = ap note_of e ∙ note-kept job.note note long in
      (rw (e, note-long job.note note) long, rw (next, made) (Driven.turned allowance driven has))

  start-long : {rows rows' note note' : List ℕ} → StartCall q.p q.points q.word q.k q.m q.l rows rows' note note' 0
      → note_bytes ≤ length note
  start-long {rows} {note = note} call =
      let table = start_call_table q.p q.points q.word q.k q.m q.l rows note in
      let fits : length note < note_bytes → ⊥ = λ h. (first-passed table (search rules) call.first refl).1.1.1.1.1.1.1.0 (inr h) in
      omega arith

  pub calls_driven : {sum made : ℕ} {rows note : List ℕ} → DrivenCalls q sum rows note made
      → (note_bytes ≤ length note) × Driven q sum rows (note_of note) made
  calls_driven (DrivenCalls.started {note = note} call) =
      let (job, has, e, n) = call.done refl in
      start_driven note (start-long call) (has, sym e) n
  calls_driven (DrivenCalls.turned {note = note} {back = back} allowance so_far room call) =
      let (long, driven) = calls_driven so_far in
      let (job, has, e, n, b) = turn_job long room call in
      turn_driven note back long room driven has n b

  -- so what demand 3 says of every pause holds at every pause of the calls, on the bytes that the caller sees
  pub calls_pause : {sum made : ℕ} {rows note : List ℕ} → DrivenCalls q sum rows note made → PauseCalls q sum rows note made
  calls_pause calls =
      let (long, driven) = calls_driven calls in
      let pause = demand_3 q driven in
      record {
        accepted = λ allowance number note' rows' back back' room call.
            let (job, has, e, n, b) = turn_job long room call in
            e ∙ pause.accepted allowance rows' job has;
        paused = pause;
        handed = λ r number curve curve' back back' fits room call.
            let (job, has, e, b) = finish_job long room call in
            let read : finished_of number back' ≡ job = ap₂ finished_of e b ∙ finished-kept job.number (back_of_finish job) back room in
            rw read (pause.curve r curve curve' job has fits);
      }
