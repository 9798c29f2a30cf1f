-- `rows::update::Crossing::ratio` meets its contract.
use mathlib.Core.Path.{◌∙◌}
use Rattle.field.proofs.OperationLaws.{inv_byte-below}
use Rattle.rows.proofs.update.CrossedRows.{place_r, place-s, inside_r, inside-s, below_r, below-s, ratio-byte}
use Rattle.rows.proofs.update.Crossing.ratio.Goals as goal

pub place-at-requires : goal.place-at-requires
place-at-requires c = place_r c.requires

pub bounds-rows-at : goal.bounds-rows-at
bounds-rows-at c = rw c.place-at.ensures (inside_r c.requires)

pub place-under-requires : goal.place-under-requires
place-under-requires c = place-s c.requires

pub bounds-rows-under : goal.bounds-rows-under
bounds-rows-under c = rw c.place-under.ensures (inside-s c.requires)

pub inverse-requires : goal.inverse-requires
inverse-requires c = record { size = c.requires.bytes.fine.size; below = rw c.place-under.ensures (below-s c.requires) }

pub product-requires : goal.product-requires
product-requires c =
    let size = c.requires.bytes.fine.size in
    record {
      size = size;
      left = rw c.place-at.ensures (below_r c.requires);
      right = rw c.inverse.ensures (inv_byte-below size _);
    }

pub returns : goal.returns
returns c = c.product.ensures ∙ rw (c.inverse.ensures, c.place-under.ensures, c.place-at.ensures) (ratio-byte c.requires)
