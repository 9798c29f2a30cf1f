-- `rows::update::Crossing::vanishes` meets its contract. The loop's invariant: the slots below j of the new row are zero.
use native.Mathlib.Omega.{arith}
use borrow.Author.Count.{below_more}
use Rattle.poly.specs.Buffers.{Decided}
use Rattle.poly.proofs.TableLaws.{decided-true, decided-false}
use Rattle.rows.proofs.update.CrossedRows.{ratio-below}
use Rattle.rows.proofs.update.Vanishing.{Vanishing, slot-zero, zero-slot, row-zero, slot-region}
use Rattle.rows.proofs.update.Crossing.vanishes.Goals as goal
use Rattle.rows.proofs.update.Crossing.vanishes.Goals.{After-slot_vanishes}

pub slot_vanishes-requires : goal.slot_vanishes-requires
slot_vanishes-requires c =
    let x = c.requires in
    record {
      fine = x.bytes.fine;
      factor = rw c.ratio-c.ensures (ratio-below x);
      first = rw (c.curve_bytes-curve.ensures, c.slot-slot.ensures) (slot-region x.bytes x.current c.loop-j-test.true);
      second = rw (c.curve_bytes-curve.ensures, c.slot-slot.ensures) (slot-region x.bytes x.other c.loop-j-test.true);
    }

-- whether slot j of the new row is zero
slot-j : (c : After-slot_vanishes) → Decided c.slot_vanishes.result (Vanishing c.requires c.loop-j.j)
slot-j c = rw (
  c.ratio-c.ensures,
  c.saturating_sub-up.ensures,
  c.saturating_sub-down.ensures,
  c.curve_bytes-curve.ensures,
  c.slot-slot.ensures,
) at c.slot_vanishes.ensures

pub returns-then-not-slot_vanishes : goal.returns-then-not-slot_vanishes
returns-then-not-slot_vanishes c =
    let slot = slot-j (goal.at.returns-then-not-slot_vanishes c).After-slot_vanishes in
    decided-false (λ z. slot.fails c.if-not-slot_vanishes.true (zero-slot c.requires c.loop-j-test.true z))

pub loop-j-preserved : goal.loop-j-preserved
loop-j-preserved c =
    let slot = slot-j (goal.at.loop-j-preserved c).After-slot_vanishes in
    below_more _ _ c.loop-j.invariant (slot-zero c.requires c.loop-j-test.true (slot.holds c.if-not-slot_vanishes.false))

pub returns-else-not-slot_vanishes : goal.returns-else-not-slot_vanishes
returns-else-not-slot_vanishes c =
    let slot = slot-j (goal.at.returns-else-not-slot_vanishes c).After-slot_vanishes in
    let last = slot-zero c.requires c.loop-j-test.true (slot.holds c.if-not-slot_vanishes.false) in
    decided-true (row-zero c.requires (λ t h. below_more _ _ c.loop-j.invariant last t (omega arith)))
