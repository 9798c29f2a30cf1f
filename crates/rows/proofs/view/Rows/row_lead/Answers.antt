-- `rows::view::Rows::row_lead` meets its contract. The loop's invariant: what was found leads what stands in the row above this power of y.
use mathlib.Core.Path.{◌≡◌}
use mathlib.Core.Logic.{inl, inr}
use Prim.Native.Nat.{zero, suc, ◌-◌, ◌*◌}
use native.Mathlib.Omega.{arith}
use Rattle.rows.specs.View.{ring_of, row_of}
use Rattle.rows.proofs.Placing.{place-inside, rows_of_boxed}
use Rattle.rows.proofs.leading.Finding.{FoundFrom, found-all, found-past, found-more, slot-zero, slot-above, slot-last}
use Rattle.rows.proofs.view.Rows.row_lead.Goals as goal
use Rattle.rows.proofs.view.Rows.row_lead.Goals.{Joined-degree_to, in-Some, in_default}

pub loop-power-init : goal.loop-power-init
loop-power-init c = (
  rw c.curve_bytes.ensures,
  c.slot-slot.ensures,
  λ t i h. rows_of_boxed c.args.self.now.shape c.args.self.now.bytes.now c.args.i t i (inr (inl (omega arith))),
)

pub degree_to-requires : goal.degree_to-requires
degree_to-requires c =
    let s = c.args.self.now in
    let v = c.loop-power.invariant in
    let top = s.shape.width - s.shape.u * c.loop-power.power in
    let inside = place-inside s.shape {e = top} c.requires.0 c.loop-power.auto.power (omega arith) in
    rw (v.0, v.1) (omega (arith, inside, s.held.room))

-- what was found leads what stands from this power on
found : (c : Joined-degree_to) → let s = c.args.self.now in
    FoundFrom (ring_of s) s.shape.u (row_of s c.args.i) c.loop-power.power c.match-degree_to.found
found c =
    let b = c.args.self.now.held in
    let p = c.requires in
    let v = c.loop-power.invariant in
    let low = c.loop-power.auto.power in
    elim c.match-degree_to.branch [
      | in-Some w ↦
          let z = rw (v.0, v.1) at w.in-Some.ensures in
          rw w.found-is (found-more _ _ _ (slot-above b p.1 p.0 low z) (slot-last b p.1 p.0 low z) _ v.2 w.heavier.ensures)
      | in_default w ↦
          let z = rw (w.in_default.is, v.0, v.1) at c.degree_to.ensures in
          rw w.found-is (found-past _ _ _ _ v.2 (slot-zero b p.1 p.0 low z))
    ]

pub loop-power-preserved : goal.loop-power-preserved
loop-power-preserved c =
    let e : suc (c.loop-power.power - 1) ≡ c.loop-power.power = omega arith in
    (c.loop-power.invariant.0, c.loop-power.invariant.1, rw e (found (goal.at.loop-power-preserved c).Joined-degree_to))

pub returns-after-degree_to : goal.returns-after-degree_to
returns-after-degree_to c =
    let e : c.loop-power.power ≡ zero = omega arith in
    found-all _ _ _ _ (rw e at (found (goal.at.returns-after-degree_to c).Joined-degree_to))
