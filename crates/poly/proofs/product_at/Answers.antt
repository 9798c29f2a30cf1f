-- `product_at` meets its contract: the coefficient is a convolution.
use mathlib.Core.Path.{ap, ◌∙◌}
use Rattle.field.specs.Symbols.{Element}
use Rattle.poly.proofs.Products.{product-convolution}
use borrow.Author.Rules.{rules}
use Rattle.poly.proofs.product_at.Goals as goal

pub returns : goal.returns
returns c =
    c.convolve.ensures
    ∙ ap (λ (x : Element c.args.p). x.byte)
    (product-convolution c.requires.size c.args.f.now c.args.xs.now c.args.at c.args.e (search rules))
