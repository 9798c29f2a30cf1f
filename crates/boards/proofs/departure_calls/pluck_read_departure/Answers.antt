-- `pluck_read_departure` meets its contract: the job's own contract, and its departure in the lent bytes.
use mathlib.Core.Path.{refl}
use Rattle.poly.proofs.RefusalLaws.{number_of-positive}
use Rattle.boards.proofs.Calling.{read-refused, read-short, read-done}
use Rattle.boards.proofs.departure_calls.pluck_read_departure.Goals as goal

pub returns-in-Err : goal.returns-in-Err
returns-in-Err c = rw c.from.ensures (read-refused c.in-Err.ensures (number_of-positive _) c.clear_lent.ensures)

pub returns-then-departure-lt-DEPARTURE_BYTES : goal.returns-then-departure-lt-DEPARTURE_BYTES
returns-then-departure-lt-DEPARTURE_BYTES c =
    rw c.from-then-departure-lt-DEPARTURE_BYTES.ensures (read-short c.in-Ok.ensures refl c.if-departure-lt-DEPARTURE_BYTES.true)

pub returns-else-departure-lt-DEPARTURE_BYTES : goal.returns-else-departure-lt-DEPARTURE_BYTES
returns-else-departure-lt-DEPARTURE_BYTES c = read-done c.in-Ok.ensures refl c.if-departure-lt-DEPARTURE_BYTES.false c.put_departure.ensures
