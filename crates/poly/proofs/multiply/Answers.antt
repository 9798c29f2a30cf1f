-- `multiply` meets its contract: from x^i on the product is in place. Assumes nothing.
use Rattle.poly.proofs.Products.{multiplied-more}
use borrow.Author.Rules.{rules}
use Rattle.poly.proofs.multiply.Goals as goal

pub loop-i-preserved : goal.loop-i-preserved
loop-i-preserved c =
    let r = c.requires in
    (search rules, multiplied-more c.loop-i.invariant.1 (search rules) c.loop-i.invariant.0 r.region.within c.product_at.ensures)
