-- `rows::fill::times_power` meets its contract. The loop's invariant: so often the region was multiplied by f.
use borrow.Author.Rules.{rules}
use Rattle.rows.proofs.fill.Slots.{power-none, power-more}
use Rattle.rows.proofs.fill.times_power.Goals as goal

pub loop-init : goal.loop-init
loop-init c = (search rules, power-none c.requires.size c.requires)

pub loop-preserved : goal.loop-preserved
loop-preserved c = (search rules, power-more c.requires.size c.requires c.loop.invariant.1 c.multiply.ensures)
