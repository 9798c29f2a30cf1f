-- `pluck_start` meets its contract: the job's own contract, and its note in the lent bytes.
use Rattle.boards.proofs.Calling.{started-number, start-short, start-done}
use Rattle.boards.proofs.pluck_start.Goals as goal

pub returns-then-note-lt-NOTE_BYTES : goal.returns-then-note-lt-NOTE_BYTES
returns-then-note-lt-NOTE_BYTES c =
    rw (c.outcome.ensures, started-number c.start.result) (start-short c.if-note-lt-NOTE_BYTES.true c.start.ensures)

pub returns : goal.returns
returns c =
    rw (c.outcome-2.ensures, started-number c.start-started.result)
    (start-done c.if-note-lt-NOTE_BYTES.false c.start-started.ensures (rw c.note_of_start.ensures at c.write_note.ensures))
