-- `rows::fill::raise_row` meets its contract.
use Rattle.rows.proofs.fill.FilledRows.{row-copied}
use Rattle.rows.proofs.fill.raise_row.Goals as goal

pub returns : goal.returns
returns c =
    let (inside, below, above) = rw (c.curve_bytes-curve.ensures, c.slot-slot.ensures) at c.copy_within.ensures.by_index in
    row-copied c.requires c.copy_within.ensures.len inside below above
