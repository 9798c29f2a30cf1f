-- `pluck_turn` meets its contract: the job's own, on the note read from the lent bytes, and its answer in them.
use Rattle.std.proofs.Common.{◌≡◌, rules}
use Rattle.boards.proofs.LentLaws.{nothing}
use Rattle.boards.proofs.Calling.{turn-unread, turn-short, turn-done}
use Rattle.boards.proofs.pluck_turn.Goals as goal

pub returns-then-note-lt-NOTE_BYTES : goal.returns-then-note-lt-NOTE_BYTES
returns-then-note-lt-NOTE_BYTES c = rw c.from.ensures (turn-unread c.if-note-lt-NOTE_BYTES.true c.clear_lent.ensures)

pub returns-then-back-lt-BACK_BYTES : goal.returns-then-back-lt-BACK_BYTES
returns-then-back-lt-BACK_BYTES c =
    rw c.outcome.ensures
    (turn-short c.if-note-lt-NOTE_BYTES.false c.if-back-lt-BACK_BYTES.true (rw c.read_note-given.ensures at c.turn.ensures))

pub returns : goal.returns
returns c =
    let none : c.default.result ≡ nothing = search rules in
    rw c.outcome-2.ensures
    (turn-done
    c.if-note-lt-NOTE_BYTES.false
    c.if-back-lt-BACK_BYTES.false
    (rw c.read_note-given.ensures at c.turn-turned.ensures)
    c.write_note.ensures
    (rw none at c.write_back.ensures))
