-- `pluck_list` meets its contract: the job's own contract, and its answer in the lent bytes.
use Rattle.boards.proofs.Calling.{listed-number, list-short, list-done}
use Rattle.boards.proofs.pluck_list.Goals as goal

pub returns-then-back-lt-BACK_BYTES : goal.returns-then-back-lt-BACK_BYTES
returns-then-back-lt-BACK_BYTES c =
    rw (c.outcome.ensures, listed-number c.list.result) (list-short c.if-back-lt-BACK_BYTES.true c.list.ensures)

pub returns : goal.returns
returns c =
    rw (c.outcome-2.ensures, listed-number c.list-listed.result)
    (list-done c.if-back-lt-BACK_BYTES.false c.list-listed.ensures (rw c.back_of_list.ensures at c.write_back.ensures))
