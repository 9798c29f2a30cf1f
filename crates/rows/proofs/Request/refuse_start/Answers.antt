-- `Request::refuse_start` meets its contract: the request's refusals come first, then that of the lent bytes.
use mathlib.Core.Path.{refl}
use mathlib.Core.Logic.{inl, inr}
use native.Mathlib.Omega.{arith}
use borrow.Author.Rules.{rules}
use Rattle.std.proofs.lemmas.Result.{err_from_is_err_and}
use Rattle.poly.proofs.RefusalLaws.{number_of-positive}
use Rattle.poly.proofs.TableLaws.{first-stops, first-goes}
use Rattle.rows.specs.Jobs.{start_table}
use Rattle.rows.proofs.Notes.{fine-shape}
use Rattle.rows.proofs.Accepted.{Requested, request-accepted}
use Rattle.rows.proofs.Request.refuse_start.Goals as goal

pub returns-in_err-refuse : goal.returns-in_err-refuse
returns-in_err-refuse c =
    let q = c.args.self.now in
    let p = err_from_is_err_and c.from_residual.result c.from_residual.ensures.1 in
    rw (p.1, p.2)
    (first-stops 7 (start_table q.p q.points.now q.word.now q.k q.m q.l c.args.rows.now) _ c.in_err-refuse.ensures (number_of-positive _))

pub rows_bytes-requires : goal.rows_bytes-requires
rows_bytes-requires c =
    let q = c.args.self.now in
    let r : Requested q.p q.points.now q.word.now q.k q.m q.l = request-accepted c.in_ok-refuse.ensures refl in
    rw c.shape.ensures (fine-shape r.places.size r.places.count r.degree r.heights)

pub returns-then-rows-rows_bytes : goal.returns-then-rows-rows_bytes
returns-then-rows-rows_bytes c =
    let q = c.args.self.now in
    first-goes 7 (start_table q.p q.points.now q.word.now q.k q.m q.l c.args.rows.now) 9 (search rules)
    c.in_ok-refuse.ensures
    (inl (rw (c.rows_bytes.ensures, c.shape.ensures) at c.if-rows-rows_bytes.true, refl))

pub returns : goal.returns
returns c =
    let q = c.args.self.now in
    let g = rw (c.rows_bytes.ensures, c.shape.ensures) at c.if-rows-rows_bytes.false in
    first-goes 7 (start_table q.p q.points.now q.word.now q.k q.m q.l c.args.rows.now) 0 (search rules)
    c.in_ok-refuse.ensures
    (inr (λ w. omega arith, refl))
