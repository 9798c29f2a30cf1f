-- `interpolate` meets its contract: after s places the bytes are the polynomial through them and their locator.
use Rattle.std.proofs.Common.{rules, arith, ◌≡◌, ◌<◌, length, get_or}
use Rattle.std.proofs.lemmas.List.{length_push}
use Rattle.std.proofs.lemmas.Slice.Zip.{zip_turn, zip_end}
use Rattle.poly.proofs.Interpolating.{interpolated-none, interpolated-next, next_halves, next-subtracts, next_factors}
use Rattle.poly.proofs.interpolate.Goals.{In-Some}
use Rattle.poly.proofs.interpolate.Goals as goal

-- the place that this turn takes
place : (c : In-Some) → (length c.loop-a.yielded < length c.args.points.now)
    × (c.in-Some.a.now ≡ get_or c.args.points.now (length c.loop-a.yielded) 0)
    × (c.in-Some.b.now ≡ get_or c.args.word.now (length c.loop-a.yielded) 0)
place c =
    let (l, k, a, b) = zip_turn c.args.points.now c.args.word.now c.loop-a.yielded c.into_iter-a-iterator.result c.loop-a.a-iterator
    c.next.new.self _ (search rules) (search rules) c.loop-a.yielded_by (c.in-Some.a, c.in-Some.b) c.in-Some.is c.next.ensures.steps in
    (l, a 0, b 0)

pub loop-a-init : goal.loop-a-init
loop-a-init c = interpolated-none c.requires.size

pub correction-c-requires : goal.correction-c-requires
correction-c-requires c =
    let (l, a, b) = place (goal.at.correction-c-requires c).In-Some in
    rw (a, b) (next_halves c.requires c.loop-a.invariant l)

pub subtract-requires : goal.subtract-requires
subtract-requires c =
    let (l, a, b) = place (goal.at.subtract-requires c).In-Some in
    rw (c.correction-c.ensures, a, b) (next-subtracts c.requires c.loop-a.invariant l)

pub multiply-requires : goal.multiply-requires
multiply-requires c =
    let (l, a, b) = place (goal.at.multiply-requires c).In-Some in
    rw (c.negative.ensures, c.subtract.ensures, c.correction-c.ensures, a, b) (next_factors c.requires c.loop-a.invariant l)

pub loop-a-preserved : goal.loop-a-preserved
loop-a-preserved c =
    let (l, a, b) = place (goal.at.loop-a-preserved c).In-Some in
    rw (length_push c.loop-a.yielded (c.in-Some.a, c.in-Some.b))
    (interpolated-next c.requires c.loop-a.invariant l
    (rw (c.negative.ensures, c.subtract.ensures, c.correction-c.ensures, a, b) at c.multiply.ensures))

pub returns : goal.returns
returns c =
    let end = zip_end c.args.points.now c.args.word.now c.loop-a.yielded c.into_iter-a-iterator.result c.loop-a.a-iterator c.next.new.self _
    (search rules) (search rules) c.loop-a.yielded_by c.in-None.is c.next.ensures.steps in
    let all : length c.loop-a.yielded ≡ length c.args.points.now = omega (arith, end, c.requires.same) in
    rw all at c.loop-a.invariant
