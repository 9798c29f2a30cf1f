-- `rows::update::Crossing::update` meets its contract: the kernels leave the bytes of the update.
use native.Mathlib.Omega.{arith}
use Rattle.field.proofs.OperationLaws.{neg_byte-below}
use Rattle.rows.proofs.Placing.{rows-small}
use Rattle.rows.proofs.update.CrossedRows.{crosses-w, crosses-v, ratio-below}
use Rattle.rows.proofs.update.Updating.{row_in, width_in, asks_subtract, asks_swap, asks-scale, asks_exchanged, subtract-leaves}
use Rattle.rows.proofs.update.Updating.{exchange-leaves}
use Rattle.rows.proofs.update.Crossing.update.Goals as goal

pub overflow_add-row : goal.overflow_add-row
overflow_add-row c =
    let x = c.requires in
    let is = c.curve_bytes-len.ensures in
    omega (arith, row_in x is c.args.self.r x.current, rows-small x.bytes.fine, crosses-w x, width_in x is)

pub overflow_sub-len : goal.overflow_sub-len
overflow_sub-len c = omega (arith, crosses-w c.requires, width_in c.requires c.curve_bytes-len.ensures)

pub subtract-requires : goal.subtract-requires
subtract-requires c = asks_subtract c.requires c.curve_bytes-len.ensures (rw c.ratio-c.ensures (ratio-below c.requires))

pub swap-requires : goal.swap-requires
swap-requires c = asks_swap c.requires c.curve_bytes-len.ensures

pub scale-requires : goal.scale-requires
scale-requires c =
    asks-scale c.requires c.curve_bytes-len.ensures c.swap.ensures (rw c.negative.ensures (neg_byte-below c.requires.bytes.fine.size _))

pub overflow_add-row-else-v-w : goal.overflow_add-row-else-v-w
overflow_add-row-else-v-w c =
    let x = c.requires in
    let is = c.curve_bytes-len.ensures in
    omega (arith, row_in x is c.args.self.r x.current, rows-small x.bytes.fine, crosses-v x, width_in x is)

pub overflow_sub-len-else-v-w : goal.overflow_sub-len-else-v-w
overflow_sub-len-else-v-w c = omega (arith, crosses-v c.requires, width_in c.requires c.curve_bytes-len.ensures)

pub subtract-requires-else-v-w : goal.subtract-requires-else-v-w
subtract-requires-else-v-w c =
    asks_exchanged c.requires c.curve_bytes-len.ensures c.swap.ensures c.negative.result.value c.scale.ensures
    (rw c.negative-else-v-w.ensures (neg_byte-below c.requires.bytes.fine.size _))

pub returns-then-v-w : goal.returns-then-v-w
returns-then-v-w c = subtract-leaves c.requires c.curve_bytes-len.ensures c.if-v-w.true c.ratio-c.result.value c.ratio-c.ensures c.subtract.ensures

pub returns-else-v-w : goal.returns-else-v-w
returns-else-v-w c =
    exchange-leaves c.requires c.curve_bytes-len.ensures c.swap.ensures c.if-v-w.false c.ratio-c.result.value c.negative.result.value
    c.negative-else-v-w.result.value c.ratio-c.ensures
    c.negative.ensures c.negative-else-v-w.ensures c.scale.ensures c.subtract-else-v-w.ensures
