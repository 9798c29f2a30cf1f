-- `near::interpolate` meets its contract: start accepts, one turn with more updates than are ever needed comes to the end, and finish
-- hands over the curve.
use Rattle.near.proofs.Listing.{start-done, started-ok, finish-done, finished-ok, curve-found}
use Rattle.near.proofs.interpolate.Goals as goal

pub unwrap-note-requires : goal.unwrap-note-requires
unwrap-note-requires c = started-ok _ (start-done c.requires.first c.start.ensures)

pub unwrap-finished-requires : goal.unwrap-finished-requires
unwrap-finished-requires c = finished-ok _ (finish-done c.requires.first (rw c.unwrap-note.ensures at c.start.ensures) c.turn-turned.ensures c.finish.ensures c.requires.curve_room)

pub returns : goal.returns
returns c =
    curve-found c.requires.first (rw c.unwrap-note.ensures at c.start.ensures) c.turn-turned.ensures
    (rw c.unwrap-finished.ensures at c.finish.ensures) c.requires.curve_room
