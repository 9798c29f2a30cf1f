-- `rows::fill::fill_low` meets its contract. The loop's invariant: row i is (y - h)^q e^(m-i).
use mathlib.Core.Path.{◌≡◌}
use Prim.Native.Nat.{◌-◌}
use borrow.Author.Rules.{rules}
use Rattle.rows.proofs.fill.LowRows.{LowFilled, one_factors, low-one, low-begins, low_factors, low-more, low-all}
use Rattle.rows.proofs.fill.fill_low.Goals as goal
use Rattle.rows.proofs.fill.fill_low.Goals.{After-times_power}

pub times_power-requires : goal.times_power-requires
times_power-requires c = rw (c.curve_bytes.ensures, c.slot-slot.ensures) (one_factors c.requires)

first : (c : After-times_power) → let a = c.args in LowFilled a.shape a.i (a.m - a.i) 0 a.h.now a.e.now a.rows.now c.times_power.new.rows
first c = low-one c.requires (rw (c.curve_bytes.ensures, c.slot-slot.ensures) at c.times_power.ensures)

pub loop-q-init : goal.loop-q-init
loop-q-init c = (
  c.slot-slot.ensures,
  rw c.curve_bytes.ensures,
  search rules,
  low-begins c.requires (first (goal.at.loop-q-init c).After-times_power),
)

pub times_y_less_h-requires : goal.times_y_less_h-requires
times_y_less_h-requires c =
    let v = c.loop-q.invariant in
    rw (v.0, v.1) (low_factors c.requires (search rules) v.3 c.loop-q-test.true)

pub loop-q-preserved : goal.loop-q-preserved
loop-q-preserved c =
    let v = c.loop-q.invariant in (
      v.0,
      v.1,
      search rules,
      low-more c.requires (search rules) v.3 c.loop-q-test.true (rw (v.0, v.1) at c.times_y_less_h.ensures),
    )

pub returns : goal.returns
returns c =
    let e : c.loop-q.q ≡ c.args.i = search rules in
    low-all c.requires (first (goal.at.returns c).After-times_power) (rw e at c.loop-q.invariant.3)
