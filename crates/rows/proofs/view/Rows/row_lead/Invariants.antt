use mathlib.Core.Path.{◌≡◌}
use Prim.Native.Nat.{suc, ◌*◌}
use Rattle.rows.specs.Bytes.{slot as slot_of, curve_bytes}
use Rattle.rows.specs.View.{ring_of, row_of}
use Rattle.rows.proofs.leading.Finding.{FoundFrom}
use Rattle.rows.proofs.view.Rows.row_lead.Given as goal

abbrev pub invariant-loop-power : goal.invariant-loop-power
invariant-loop-power l =
    let shape = l.self.shape in
    (l.base ≡ l.i * curve_bytes shape) × (l.slot ≡ slot_of shape)
    × FoundFrom (ring_of l.self) shape.u (row_of l.self l.i) (suc l.power) l.found
