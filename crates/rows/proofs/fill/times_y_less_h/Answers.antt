-- `rows::fill::times_y_less_h` meets its contract. The loop's invariant: the slots from j on are in place.
use borrow.Author.Rules.{rules}
use Rattle.rows.proofs.fill.Slots.{raising-more}
use Rattle.rows.proofs.fill.times_y_less_h.Goals as goal

pub loop-j-preserved : goal.loop-j-preserved
loop-j-preserved c = (
  search rules,
  raising-more c.requires.size c.loop-j-test.true c.loop-j.invariant.0 c.loop-j.invariant.1
      c.raise_slot.ensures,
)
