-- `rows::view::Rows::hand_over` meets its contract.
use mathlib.Core.Path.{◌≡◌, ap}
use mathlib.Core.List.{List, ◌++◌}
use Prim.Native.Nat.{ℕ, ◌+◌, ◌*◌}
use native.Mathlib.Omega.{arith}
use lib.ListN.{get_or, drop}
use Rattle.std.specs.List.{between}
use Rattle.field.proofs.OperationLaws.{inv_byte-below}
use Rattle.rows.proofs.lightest.HandedCurve.{lead-below, hand-region, handed}
use Rattle.rows.proofs.view.Rows.hand_over.Goals as goal
use Rattle.rows.proofs.view.Rows.hand_over.Goals.{After-copy}

copied : (c : After-copy) → let len = c.curve_bytes-len.result in let a = c.args in let rest = drop len a.curve.now in
    c.copy.new.to ++ rest ≡ between (a.light.row * len) (a.light.row * len + len) a.self.now.bytes.now ++ rest
copied c = ap (λ (bs : List ℕ). bs ++ drop c.curve_bytes-len.result c.args.curve.now) c.copy.ensures

pub inverse-inverse-requires : goal.inverse-inverse-requires
inverse-inverse-requires c = record { size = c.requires.bytes.fine.size; below = lead-below c.requires c.place-at.ensures }

pub scale-requires : goal.scale-requires
scale-requires c =
    let z = c.requires.bytes.fine.size in
    record {
      size = z;
      factor = omega (arith, z, c.inverse-inverse.ensures, inv_byte-below z (get_or c.args.self.now.bytes.now c.place-at.result 0));
      target = hand-region c.requires c.curve_bytes-len.ensures (copied (goal.at.scale-requires c).After-copy);
    }

pub returns : goal.returns
returns c =
    handed c.requires c.curve_bytes-len.ensures (copied (goal.at.returns c).After-copy) c.place-at.ensures
    c.inverse-inverse.ensures c.scale.ensures
