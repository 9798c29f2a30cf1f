-- `rows::leading::heavier` meets its contract.
use Rattle.rows.specs.Work.{first, stays, taken}
use Rattle.rows.proofs.leading.heavier.Goals as goal

pub returns-in-Some : goal.returns-in-Some
returns-in-Some c = rw c.in-Some.is (stays c.if-term-lead.true)

pub returns-in_default : goal.returns-in_default
returns-in_default c = rw c.in-Some.is (taken c.if-term-lead.false)

pub returns-in_default-2 : goal.returns-in_default-2
returns-in_default-2 c = rw c.in_default.is first
