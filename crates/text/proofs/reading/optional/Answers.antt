-- `text::reading::optional` meets its contract: an empty text means `other`, and any other text is a number or nothing.
use Rattle.std.proofs.Common.{rules}
use borrow.Author.Tests.{tests}
use Rattle.text.proofs.Numbers.{optional-empty, optional_number}
use Rattle.text.proofs.reading.optional.Goals as goal

pub returns-then-is_empty : goal.returns-then-is_empty
returns-then-is_empty c = optional-empty c.args.text.now c.args.other (search (rules, tests))

pub returns : goal.returns
returns c = optional_number c.args.text.now c.args.other c.number.result (search (rules, tests)) c.number.ensures
