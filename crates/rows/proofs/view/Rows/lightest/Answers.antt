-- `rows::view::Rows::lightest` meets its contract. The loop's invariant: of the rows before this one, the row kept is the lightest.
use mathlib.Core.Path.{◌≡◌}
use Prim.Native.Nat.{zero, suc, ◌+◌, ◌-◌}
use native.Mathlib.Omega.{arith}
use Rattle.curves.specs.Finish.{Lightest}
use Rattle.curves.proofs.Least.{lightest-one, lightest-new, lightest-stays}
use Rattle.rows.specs.View.{ring_of, row_of}
use Rattle.rows.proofs.leading.Finding.{lead-own, searched}
use Rattle.rows.proofs.view.Rows.lightest.Goals as goal
use Rattle.rows.proofs.view.Rows.lightest.Goals.{Joined-weight-lightest, then-weight-lightest, else-weight-lightest}

pub lead_of-requires-clause-row : goal.lead_of-requires-clause-row
lead_of-requires-clause-row c = searched c.requires.bytes c.requires.sound (omega arith)

pub lead_of-requires-clause-nonzero : goal.lead_of-requires-clause-nonzero
lead_of-requires-clause-nonzero c = c.requires.sound.nonzero zero (omega arith)

pub loop-row-init : goal.loop-row-init
loop-row-init c = (omega arith, lightest-one _ (lead-own c.lead_of.ensures (c.requires.sound.own 0 (omega arith) (omega arith))))

pub lead_of-weight-requires-clause-row : goal.lead_of-weight-requires-clause-row
lead_of-weight-requires-clause-row c = searched c.requires.bytes c.requires.sound c.loop-row-test.true

-- this row is among them
grown : (c : Joined-weight-lightest) → let s = c.args.self.now in let lightest = c.if-weight-lightest.lightest in
    Lightest (ring_of s) s.shape.u c.loop-row.row (row_of s) lightest.row lightest.weight
grown c =
    let e : c.loop-row.row ≡ suc (c.loop-row.row - 1) = omega arith in
    let own = c.requires.sound.own c.loop-row.row c.loop-row-test.true (omega arith) in
    let lead = rw e at (lead-own c.lead_of-weight.ensures own) in
    elim c.if-weight-lightest.branch [
      | then-weight-lightest w ↦ rw (w.lightest-is, e) (lightest-new c.loop-row.invariant.1 lead w.if-weight-lightest.true)
      | else-weight-lightest w ↦ rw (w.lightest-is, e) (lightest-stays c.loop-row.invariant.1 lead w.if-weight-lightest.false)
    ]

pub loop-row-preserved : goal.loop-row-preserved
loop-row-preserved c =
    let e : c.loop-row.row + 1 - 1 ≡ c.loop-row.row = omega arith in
    (omega arith, rw e (grown (goal.at.loop-row-preserved c).Joined-weight-lightest))

pub returns : goal.returns
returns c =
    let e : c.loop-row.row - 1 ≡ c.args.self.now.shape.l = omega arith in
    rw e at c.loop-row.invariant.1

pub returns-after-weight-lightest : goal.returns-after-weight-lightest
returns-after-weight-lightest c =
    let e : c.loop-row.row ≡ c.args.self.now.shape.l = omega arith in
    rw e at (grown (goal.at.returns-after-weight-lightest c).Joined-weight-lightest)
