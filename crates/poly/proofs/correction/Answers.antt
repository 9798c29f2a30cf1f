-- `correction` meets its contract. Assumes nothing.
use mathlib.Core.Path.{◌≡◌, ◌∙◌}
use native.Mathlib.Omega.{arith}
use lib.ListN.{drop, length-take}
use Rattle.field.proofs.OperationLaws.{minus_bytes-below, inv_byte-below}
use Rattle.poly.specs.Encode.{value_at}
use Rattle.poly.proofs.BufferLaws.{below-take, below-drop, take-rest}
use Rattle.poly.proofs.correction.Goals as goal

pub slice_bounds-value_at-end : goal.slice_bounds-value_at-end
slice_bounds-value_at-end c = simp length-take (omega arith)

pub value_at-requires : goal.value_at-requires
value_at-requires c = record { size = c.requires.size; point = c.requires.point; below = below-take 32 c.args.work.now c.requires.below }

pub value_at-requires-2 : goal.value_at-requires-2
value_at-requires-2 c =
    record {
      size = c.requires.size;
      point = c.requires.point;
      below = rw (take-rest 32 c.args.work.now) (below-drop 32 c.args.work.now c.requires.below);
    }

pub product-requires : goal.product-requires
product-requires c =
    record {
      size = c.requires.size;
      left = rw c.difference.ensures (minus_bytes-below c.requires.size _ _);
      right = rw c.inverse.ensures (inv_byte-below c.requires.size _);
    }

pub returns : goal.returns
returns c =
    let value-e : let s = c.args in c.value_at-2.result ≡ (value_at s.p (drop 32 s.work.now) s.a).byte = let s = c.args in
    c.value_at-2.ensures ∙ rw (take-rest 32 s.work.now) in
    c.product.ensures ∙ rw (
      c.difference.ensures,
      c.inverse.ensures,
      c.value_at.ensures,
      value-e,
    )
