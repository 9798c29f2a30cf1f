-- `field::sixteen::product` meets its contract: the remainder of the whole product is the product of the field.
use mathlib.Core.Path.{sym, ◌∙◌}
use Rattle.field.proofs.BitPolynomialLaws.{product-low}
use Rattle.field.proofs.OperationLaws.{times_bits}
use Rattle.field.proofs.sixteen.product.Goals as goal

pub fold-requires : goal.fold-requires
fold-requires c = let o = c.requires in rw c.whole_product.ensures (product-low o.right o.left)

pub returns : goal.returns
returns c =
    let o = c.requires in
    c.fold.ensures ∙ rw c.whole_product.ensures (sym (times_bits o.left o.right))
