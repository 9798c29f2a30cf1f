-- `pluck_hear` meets its contract: the job's own contract, and what was heard in the lent bytes.
use Rattle.boards.proofs.Calling.{hear-short, hear-done}
use Rattle.boards.proofs.departure_calls.pluck_hear.Goals as goal

pub returns-then-heard-lt-HEARD_BYTES : goal.returns-then-heard-lt-HEARD_BYTES
returns-then-heard-lt-HEARD_BYTES c = hear-short c.if-heard-lt-HEARD_BYTES.true c.hear.ensures c.back_of_hear.ensures

pub returns : goal.returns
returns c = hear-done c.if-heard-lt-HEARD_BYTES.false c.hear-2.ensures c.back_of_hear-back.ensures c.put_heard.ensures
