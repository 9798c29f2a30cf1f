-- `pluck_finish` meets its contract: the job's own, on the note read from the lent bytes, and its answer in them.
use Rattle.boards.proofs.Calling.{finished-number, finish-unread, finish-short, finish-done}
use Rattle.boards.proofs.pluck_finish.Goals as goal

pub returns-then-note-lt-NOTE_BYTES : goal.returns-then-note-lt-NOTE_BYTES
returns-then-note-lt-NOTE_BYTES c = rw c.from.ensures (finish-unread c.if-note-lt-NOTE_BYTES.true c.clear_lent.ensures)

pub returns-then-back-lt-BACK_BYTES : goal.returns-then-back-lt-BACK_BYTES
returns-then-back-lt-BACK_BYTES c =
    rw (c.outcome.ensures, finished-number c.finish.result)
    (finish-short c.if-note-lt-NOTE_BYTES.false c.if-back-lt-BACK_BYTES.true (rw c.read_note-given.ensures at c.finish.ensures))

pub returns : goal.returns
returns c =
    rw (c.outcome-2.ensures, finished-number c.finish-finished.result)
    (finish-done
    c.if-note-lt-NOTE_BYTES.false
    c.if-back-lt-BACK_BYTES.false
    (rw c.read_note-given.ensures at c.finish-finished.ensures)
    (rw c.back_of_finish.ensures at c.write_back.ensures))
