-- `rows::go` meets its contract. The loop's invariant: a turn from here ends as the whole turn does, with the updates made so far counted.
-- With each pass either the current row rises or the allowance falls.
use mathlib.Core.Path.{refl, sym, subst}
use Prim.Native.Nat.{ℕ, ◌≤◌}
use native.Mathlib.Numerals.{add-one}
use native.Mathlib.Omega.{arith}
use Rattle.rows.specs.Work.{Crosses}
use Rattle.rows.proofs.Going.{Going, going-rises, going-below, going_crosses, going-updates, ends-finished, ends-paused, ends_halted}
use Rattle.rows.proofs.leading.Finding.{searched}
use Rattle.rows.proofs.go.Goals as goal
use Rattle.rows.proofs.go.Goals.{After-lead_of-v}

pub lead_of-lead-requires : goal.lead_of-lead-requires
lead_of-lead-requires c =
    let g = c.loop-r.invariant.2 in
    let h = c.loop-r-test.true in
    record { row = searched g.bytes g.sound h; nonzero = g.sound.nonzero _ h }

pub loop-r-preserved-then-s-r : goal.loop-r-preserved-then-s-r
loop-r-preserved-then-s-r c =
    let v = c.loop-r.invariant in (
      v.0,
      v.1,
      subst (λ (r : ℕ). Going c.shape-shape.result c.args.note.r c.args.allowance c.args.rows.now c.loop-r.rows r c.loop-r.left)
          (sym (add-one c.loop-r.r))
          (going-rises v.2 c.loop-r-test.true (rw c.if-s-r.true at c.lead_of-lead.ensures)),
    )

pub returns-then-left-eq0 : goal.returns-then-left-eq0
returns-then-left-eq0 c =
    let v = c.loop-r.invariant in
    ends-paused v.0 v.2 c.at_row.ensures (omega arith) c.loop-r-test.true c.lead_of-lead.ensures c.if-s-r.false c.if-left-eq0.true refl

pub lead_of-v-requires : goal.lead_of-v-requires
lead_of-v-requires c =
    let g = c.loop-r.invariant.2 in
    let k = going-below g c.loop-r-test.true c.lead_of-lead.ensures c.if-s-r.false in
    let h : c.lead_of-lead.result.power ≤ c.shape-shape.result.l = omega arith in
    record { row = searched g.bytes g.sound h; nonzero = g.sound.nonzero _ h }

crosses : (c : After-lead_of-v) → Crosses c.shape-shape.result c.loop-r.rows c.loop-r.r c.lead_of-lead.result.weight
    c.lead_of-lead.result.power c.lead_of-v.result.weight
crosses c = going_crosses c.loop-r.invariant.2 c.loop-r-test.true c.lead_of-lead.ensures c.if-s-r.false c.lead_of-v.ensures

pub vanishes-requires : goal.vanishes-requires
vanishes-requires c = crosses (goal.at.vanishes-requires c).After-lead_of-v

pub returns-then-vanishes : goal.returns-then-vanishes
returns-then-vanishes c =
    let v = c.loop-r.invariant in
    ends_halted v.0 v.2 c.at_row-then-vanishes.ensures refl (crosses (goal.at.returns-then-vanishes c).After-lead_of-v) (omega arith)
    (c.vanishes.ensures.holds c.if-vanishes.true) refl

pub update-requires : goal.update-requires
update-requires c = crosses (goal.at.update-requires c).After-lead_of-v

pub loop-r-preserved : goal.loop-r-preserved
loop-r-preserved c =
    let v = c.loop-r.invariant in (
      v.0,
      v.1,
      going-updates v.2 (crosses (goal.at.loop-r-preserved c).After-lead_of-v) c.update.new.rows (omega arith)
          (c.vanishes.ensures.fails c.if-vanishes.false) c.update.ensures.0 c.update.ensures.1,
    )

pub returns : goal.returns
returns c =
    let v = c.loop-r.invariant in
    ends-finished v.0 v.2 c.at_row-2.ensures refl c.loop-r-test.false refl
