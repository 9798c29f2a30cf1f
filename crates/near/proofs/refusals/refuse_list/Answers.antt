-- `near::refusals::refuse_list` meets its contract: it asks in the table's order.
use mathlib.Core.Path.{refl}
use mathlib.Core.Logic.{inl, inr, ⊎_elim}
use native.Mathlib.Nat.{mul-le-mul}
use native.Mathlib.Omega.{arith}
use borrow.Author.Rules.{rules}
use Rattle.std.proofs.lemmas.Result.{err_from_is_err_and}
use Rattle.poly.proofs.RefusalLaws.{number_of-positive}
use Rattle.poly.proofs.TableLaws.{first-stops, first-goes}
use Rattle.near.specs.Job.{list_table}
use Rattle.near.proofs.refusals.refuse_list.Goals as goal
use Rattle.near.proofs.refusals.refuse_list.Goals.{then-t-lt1-via-then-t-lt1, then-t-lt1-via-else-t-lt1+then-request-from}
use Rattle.near.proofs.refusals.refuse_list.Goals.{then-room-lt-WORKING_ROOM-via-then-room-lt-WORKING_ROOM}
use Rattle.near.proofs.refusals.refuse_list.Goals.{then-room-lt-WORKING_ROOM-via-else-room-lt-WORKING_ROOM+then-messages-size}

pub returns-in_err-refuse : goal.returns-in_err-refuse
returns-in_err-refuse c =
    let q = c.args.request.now in
    let p = err_from_is_err_and c.from_residual.result c.from_residual.ensures.1 in
    rw (p.1, p.2)
    (first-stops 7 (list_table q.p q.points.now q.word.now q.k q.m q.l c.args.t c.args.room.now c.args.messages.now) _
    c.in_err-refuse.ensures (number_of-positive _))

pub returns-then-t-lt1 : goal.returns-then-t-lt1
returns-then-t-lt1 c =
    let q = c.args.request.now in
    first-goes 7 (list_table q.p q.points.now q.word.now q.k q.m q.l c.args.t c.args.room.now c.args.messages.now) 8 (search rules)
    c.in_ok-refuse.ensures
    (inl (
      elim c.then-t-lt1.branch [
        | then-t-lt1-via-then-t-lt1 w ↦ inl w.if-t-lt1.true
        | then-t-lt1-via-else-t-lt1+then-request-from w ↦ inr (rw w.from.ensures at w.if-request-from.true)
      ],
      refl,
    ))

pub overflow_mul-size : goal.overflow_mul-size
overflow_mul-size c =
    let h = mul-le-mul {n₁ = c.args.request.now.l} {m₁ = c.args.request.now.k} {n₂ = 255} {m₂ = 255} (omega arith) (omega arith) in
    rw (c.from-2.ensures, c.from-3.ensures) (omega (arith, h))

pub returns-then-room-lt-WORKING_ROOM : goal.returns-then-room-lt-WORKING_ROOM
returns-then-room-lt-WORKING_ROOM c =
    let q = c.args.request.now in
    first-goes 7 (list_table q.p q.points.now q.word.now q.k q.m q.l c.args.t c.args.room.now c.args.messages.now) 9 (search rules)
    c.in_ok-refuse.ensures
    (inr (
      ⊎_elim (λ w. omega arith) (λ w. omega arith),
      inl (
        elim c.then-room-lt-WORKING_ROOM.branch [
          | then-room-lt-WORKING_ROOM-via-then-room-lt-WORKING_ROOM w ↦ inl w.if-room-lt-WORKING_ROOM.true
          | then-room-lt-WORKING_ROOM-via-else-room-lt-WORKING_ROOM+then-messages-size w ↦ inr (rw (c.from-2.ensures, c.from-3.ensures) at w.if-messages-size.true)
        ],
        refl,
      ),
    ))

pub returns : goal.returns
returns c =
    let q = c.args.request.now in
    first-goes 7 (list_table q.p q.points.now q.word.now q.k q.m q.l c.args.t c.args.room.now c.args.messages.now) 0 (search rules)
    c.in_ok-refuse.ensures
    (inr (
      ⊎_elim (λ w. omega arith) (λ w. omega arith),
      inr (⊎_elim (λ w. omega arith) (λ w. let size = rw (c.from-2.ensures, c.from-3.ensures) at c.if-messages-size.false in omega (arith, size)), refl),
    ))
