use mathlib.Core.Path.{◌≡◌}
use Prim.Native.Nat.{◌+◌, ◌-◌}
use lib.ListN.{take, drop}
use Rattle.field.specs.Kernels.{scaled}
use Rattle.field.proofs.kernels.scale.Given as goal

abbrev pub invariant-loop-x : goal.invariant-loop-x
invariant-loop-x g l =
    let f = g.F.Factor in
    l.x-items ≡ take (l.at + l.len - l.at) (drop l.at (scaled (f.size l.factor) (f.factor l.factor) l.at l.x-index l.fn.rows))
