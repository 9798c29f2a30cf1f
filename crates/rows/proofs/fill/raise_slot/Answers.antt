-- `rows::fill::raise_slot` meets its contract.
use mathlib.Core.Path.{◌≡◌}
use Prim.Native.Nat.{◌+◌, ◌-◌, ◌*◌, ◌≤◌}
use native.Mathlib.Nat.{mul-le-mul_right}
use native.Mathlib.Omega.{arith}
use Rattle.poly.specs.Buffers.{Factors}
use Rattle.poly.proofs.BufferLaws.{factors-part, region-part}
use Rattle.rows.proofs.fill.Slots.{Negated, slot-scales, slot_negated, slot-subtracts, raised-lowest, raised-above}
use Rattle.rows.proofs.fill.raise_slot.Goals as goal
use Rattle.rows.proofs.fill.raise_slot.Goals.{Start, After-scale, Then-j-gt0}

factors : (c : Start) → let a = c.args in Factors a.p a.h.now (a.base + a.j * a.slot) a.slot a.rows.now
factors c = factors-part (c.args.j * c.args.slot) (omega arith) c.requires

-- slot j, times -h
negated : (c : After-scale) → let a = c.args in Negated a.p a.h.now (a.base + a.j * a.slot) a.slot a.rows.now c.scale.new.rows
negated c =
    slot_negated c.requires.size c.negative-minus.ensures (factors (goal.at.After-scale c).Start) c.multiply.ensures c.scale.ensures

under : (c : Then-j-gt0) → let a = c.args in a.slot ≤ a.j * a.slot
under c = omega (arith, mul-le-mul_right c.args.slot c.if-j-gt0.true)

pub multiply-requires : goal.multiply-requires
multiply-requires c = factors (goal.at.multiply-requires c).Start

pub scale-requires : goal.scale-requires
scale-requires c =
    slot-scales c.requires.size c.negative-minus.ensures (factors (goal.at.scale-requires c).Start) c.multiply.ensures

pub subtract-requires : goal.subtract-requires
subtract-requires c =
    let a = c.args in
    let u = under (goal.at.subtract-requires c).Then-j-gt0 in
    let e : a.base + a.j * a.slot - a.slot ≡ a.base + (a.j * a.slot - a.slot) = omega arith in
    slot-subtracts c.requires.size c.negative-minus.ensures (factors (goal.at.subtract-requires c).Start) (omega arith)
    (rw e (region-part (a.j * a.slot - a.slot) (omega arith) c.requires.region)) (negated (goal.at.subtract-requires c).After-scale)

pub returns-then-j-gt0 : goal.returns-then-j-gt0
returns-then-j-gt0 c =
    let a = c.args in
    let at = goal.at.returns-then-j-gt0 c in
    let u = under at.Then-j-gt0 in
    let f = factors at.Start in
    raised-above c.requires.size c.negative-minus.ensures a.j (negated at.After-scale) (a.base + a.j * a.slot - a.slot)
    c.if-j-gt0.true (omega arith) (omega (arith, f.region.within)) c.subtract.ensures

pub returns-else-j-gt0 : goal.returns-else-j-gt0
returns-else-j-gt0 c =
    raised-lowest c.requires.size c.negative-minus.ensures c.args.j (negated (goal.at.returns-else-j-gt0 c).After-scale)
    (omega (arith, c.if-j-gt0.false))
