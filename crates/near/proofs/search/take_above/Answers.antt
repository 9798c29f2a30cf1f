-- `take_above` meets its contract: the kernel takes off the negative of c times the slot above, from x^i on. Assumes nothing.
use Prim.Native.Nat.{suc}
use native.Mathlib.Numerals.{add-one}
use Rattle.near.proofs.search.Laying.{place-is, place-slot}
use Rattle.near.proofs.search.Shifting.{subtracts, taken}
use Rattle.near.proofs.search.take_above.Goals as goal

pub subtract-requires : goal.subtract-requires
subtract-requires c =
    rw (
      c.place-target.ensures,
      c.place-source.ensures,
      c.slot.ensures,
      c.negative.ensures,
      add-one c.args.q,
      place-slot c.args.shape (suc c.args.q),
      place-is c.args.shape c.args.q c.args.i,
    )
    (subtracts c.requires.tries c.requires.q_lt_l)

pub returns : goal.returns
returns c =
    rw (
      c.subtract.ensures,
      c.place-target.ensures,
      c.place-source.ensures,
      c.slot.ensures,
      c.negative.ensures,
      add-one c.args.q,
      place-slot c.args.shape (suc c.args.q),
      place-is c.args.shape c.args.q c.args.i,
    )
    (taken c.requires.tries c.requires.q_lt_l)
