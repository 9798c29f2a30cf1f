-- `rows::view::Rows::height` meets its contract.
use Rattle.rows.proofs.lightest.HandedCurve.{row-some, row-height}
use Rattle.rows.proofs.view.Rows.height.Goals as goal

pub unwrap-last-requires : goal.unwrap-last-requires
unwrap-last-requires c = row-some c.requires.0 c.requires.1 _ (rw c.curve_bytes-curve.ensures at c.degree_to.ensures)

pub returns : goal.returns
returns c =
    let z = rw (c.unwrap-last.ensures, c.curve_bytes-curve.ensures) at c.degree_to.ensures in
    rw c.slot.ensures (row-height c.requires.0 c.requires.1 z)
