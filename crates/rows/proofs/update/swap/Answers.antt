-- `rows::update::swap` meets its contract.
use borrow.Author.Rules.{rules}
use Rattle.rows.proofs.update.Exchanging.{exchanged}
use Rattle.rows.proofs.update.swap.Goals as goal

pub returns : goal.returns
returns c = search (rules, exchanged)
