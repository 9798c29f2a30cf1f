-- `near::list` meets its contract: a refusal leaves all as it was; else the curve is found and the working room cleared, and then it is 13
-- or the search runs.
use mathlib.Core.List.{List}
use Prim.Native.Nat.{ℕ, ◌≤◌}
use native.Mathlib.Nat.{mul-le-mul}
use native.Mathlib.Omega.{arith}
use lib.ListN.{length}
use Rattle.std.proofs.lemmas.Result.{err_from_is_err_and}
use Rattle.poly.specs.Limits.{curve_most}
use Rattle.poly.proofs.RefusalLaws.{number_of-positive}
use Rattle.poly.specs.Table.{First}
use Rattle.rows.specs.Bytes.{shape, curve_bytes}
use Rattle.rows.specs.declared.Request.{Request}
use Rattle.rows.proofs.Notes.{good-fine}
use Rattle.rows.proofs.Accepted.{accepted-note}
use Rattle.rows.proofs.Placing.{curve-small}
use Rattle.near.specs.Job.{list_table}
use Rattle.near.proofs.Listing.{Taken, list-taken, search-runs, search-lists, list-refuses, list-unvouched, list-answers}
use Rattle.near.proofs.list.Goals as goal

module _ (q : Request) (t : ℕ) (room messages : List ℕ) where
  takes : First (list_table q.p q.points.now q.word.now q.k q.m q.l t room messages) 0
      → Taken q.p q.points.now q.word.now q.k q.m q.l t room messages
  takes = list-taken q.p q.points.now q.word.now q.k q.m q.l t room messages

room-for : (q : Request) {t : ℕ} {room messages : List ℕ} → Taken q.p q.points.now q.word.now q.k q.m q.l t room messages
    → curve_bytes (shape q.p (length q.points.now) q.k q.m q.l) ≤ curve_most
room-for q taken = curve-small (good-fine (accepted-note taken.accepted))

pub returns-in_err-refuse_list : goal.returns-in_err-refuse_list
returns-in_err-refuse_list c =
    let p = err_from_is_err_and c.from_residual.result c.from_residual.ensures.1 in
    rw (p.1, p.2) (list-refuses c.in_err-refuse_list.ensures (number_of-positive _))

pub interpolate-weighed-requires : goal.interpolate-weighed-requires
interpolate-weighed-requires c =
    let first = c.in_ok-refuse_list.ensures in
    let taken = takes c.args.request.now c.args.t c.args.room.now c.args.messages.now first in
    let fits = room-for c.args.request.now taken in
    record { first = taken.start; curve_room = fits }

pub clear-requires : goal.clear-requires
clear-requires c =
    let first = c.in_ok-refuse_list.ensures in
    let taken = takes c.args.request.now c.args.t c.args.room.now c.args.messages.now first in
    let w = taken.working in
    omega (arith, c.interpolate-weighed.ensures.rest.long)

pub overflow_mul-from : goal.overflow_mul-from
overflow_mul-from c =
    let h = mul-le-mul {n₁ = c.args.request.now.m} {m₁ = c.args.t} {n₂ = 255} {m₂ = 255} (omega arith) (omega arith) in
    rw (c.from.ensures, c.from-2.ensures) (omega (arith, h))

pub returns-then-from : goal.returns-then-from
returns-then-from c =
    let first = c.in_ok-refuse_list.ensures in
    list-unvouched first c.interpolate-weighed.ensures c.clear.ensures (omega (arith, rw (c.from.ensures, c.from-2.ensures, c.from-3.ensures) at c.if-from.true))

pub run-count-requires : goal.run-count-requires
run-count-requires c =
    let first = c.in_ok-refuse_list.ensures in
    let taken = takes c.args.request.now c.args.t c.args.room.now c.args.messages.now first in
    let fits = room-for c.args.request.now taken in
    record {
      bounds = (taken.accepted.heights.order, taken.accepted.places.count);
      runs = search-runs taken c.interpolate-weighed.ensures fits (rw (c.from.ensures, c.from-2.ensures, c.from-3.ensures) at c.if-from.false);
    }

pub returns : goal.returns
returns c =
    let first = c.in_ok-refuse_list.ensures in
    let taken = takes c.args.request.now c.args.t c.args.room.now c.args.messages.now first in
    let fits = room-for c.args.request.now taken in
    list-answers first c.interpolate-weighed.ensures c.clear.ensures (rw (c.from.ensures, c.from-2.ensures, c.from-3.ensures) at c.if-from.false)
    (search-lists taken c.interpolate-weighed.ensures fits (rw (c.from.ensures, c.from-2.ensures, c.from-3.ensures) at c.if-from.false) c.run-count.ensures)
