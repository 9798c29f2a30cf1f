use mathlib.Core.Path.{◌≡◌}
use Prim.Native.Nat.{ℕ, ◌+◌, ◌*◌, ◌≤◌, ◌<◌}
use lib.ListN.{get_or}
use Rattle.rows.specs.Bytes.{place}
use Rattle.rows.proofs.view.Rows.row_light.Given as goal

abbrev pub invariant-loop-j : goal.invariant-loop-j
invariant-loop-j l =
    let shape = l.self.shape in
    (t : ℕ) → t < l.j → (e : ℕ) → e ≤ shape.width → shape.width < e + shape.u * t → get_or l.self.bytes.now (place shape l.i t e) 0 ≡ 0
