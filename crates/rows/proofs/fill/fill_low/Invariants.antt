use mathlib.Core.Path.{◌≡◌}
use Prim.Native.Nat.{◌-◌, ◌*◌, ◌≤◌}
use Rattle.rows.specs.Bytes.{slot as slot_of, curve_bytes}
use Rattle.rows.proofs.fill.LowRows.{LowFilled}
use Rattle.rows.proofs.fill.fill_low.Given as goal

abbrev pub invariant-loop-q : goal.invariant-loop-q
invariant-loop-q l = (l.slot ≡ slot_of l.shape) × (l.base ≡ l.i * curve_bytes l.shape) × (l.q ≤ l.i)
    × LowFilled l.shape l.i (l.m - l.i) l.q l.h l.e l.initial.rows l.rows
