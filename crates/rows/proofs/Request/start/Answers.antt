-- `Request::start` meets its contract.
use mathlib.Core.Path.{refl, sym}
use native.Mathlib.Omega.{arith}
use Rattle.std.proofs.lemmas.Result.{err_from_is_err_and}
use Rattle.poly.proofs.RefusalLaws.{number_of-positive}
use Rattle.poly.proofs.Interpolating.{interpolated-below}
use Rattle.rows.proofs.Notes.{good-fine}
use Rattle.rows.proofs.Accepted.{Accepted, start-accepted, accepted-note}
use Rattle.rows.proofs.Starting.{accepted-rows}
use Rattle.rows.proofs.Request.start.Goals as goal
use Rattle.rows.proofs.Request.start.Goals.{After-shape-shape}

pub returns-in_err-refuse_start : goal.returns-in_err-refuse_start
returns-in_err-refuse_start c =
    let p = err_from_is_err_and c.from_residual.result c.from_residual.ensures.1 in
    rw (p.1, p.2)
    (record {
      first = c.in_err-refuse_start.ensures;
      note = λ e. absurd (number_of-positive _ e);
      rows = λ e. absurd (number_of-positive _ e);
      rest = record { long = refl; same = λ q h. refl };
      refused = λ n. (refl, refl);
    })

pub shape-shape-requires : goal.shape-shape-requires
shape-shape-requires c =
    let q = c.args.self.now in
    let a : Accepted q.p q.points.now q.word.now q.k q.m q.l c.args.rows.now = start-accepted c.in_ok-refuse_start.ensures refl in
    record { numbers = (omega (arith, a.low), a.heights.order); count = a.places.count }

accepted : (c : After-shape-shape) → let q = c.args.self.now in Accepted q.p q.points.now q.word.now q.k q.m q.l c.args.rows.now
accepted c = start-accepted c.in_ok-refuse_start.ensures refl

pub interpolate-work-requires : goal.interpolate-work-requires
interpolate-work-requires c = (accepted (goal.at.interpolate-work-requires c).After-shape-shape).places

pub slice_bounds-fill-end : goal.slice_bounds-fill-end
slice_bounds-fill-end c = sym c.interpolate-work.ensures.long

pub fill-requires : goal.fill-requires
fill-requires c =
    let a = accepted (goal.at.fill-requires c).After-shape-shape in
    rw c.shape-shape.ensures
    record {
      fine = good-fine (accepted-note a);
      room = a.room;
      long = c.interpolate-work.ensures.long;
      below = interpolated-below a.places c.interpolate-work.ensures;
    }

pub overflow_cast-result : goal.overflow_cast-result
overflow_cast-result c =
    let a = accepted (goal.at.overflow_cast-result c).After-shape-shape in
    omega (arith, a.places.count, a.places.size)

pub returns : goal.returns
returns c =
    let a = accepted (goal.at.returns c).After-shape-shape in
    let filled = rw (c.shape-shape.ensures, c.from.ensures) at c.fill.ensures in
    record {
      first = c.in_ok-refuse_start.ensures;
      note = λ z. refl;
      rows = λ z. accepted-rows a c.interpolate-work.ensures c.fill.new.rows filled.0;
      rest = filled.1;
      refused = λ n. absurd (n refl);
    }
