-- `rows::update::slot_vanishes` meets its contract. The loop's invariant: the coefficients below x^e are zero.
use native.Mathlib.Omega.{arith}
use Rattle.field.proofs.OperationLaws.{times_bytes-below}
use Rattle.rows.proofs.update.Vanishing.{delayed-below}
use Rattle.rows.proofs.update.slot_vanishes.Goals as goal

pub difference-requires : goal.difference-requires
difference-requires c =
    let p = c.requires in
    record {
      size = p.fine.size;
      left = rw c.delayed-x.ensures (delayed-below p.fine.size p.first c.args.up c.loop-e.e (omega arith));
      right = rw c.product.ensures (times_bytes-below p.fine.size _ _);
    }
