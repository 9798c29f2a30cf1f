-- `field::Symbol::plus_product` meets its contract, in the field of 16 and modulo p, where a symbol and a product of two are reducible together.
use mathlib.Core.Path.{sym, ◌∙◌}
use Rattle.field.specs.Operations.{Operand}
use Rattle.field.proofs.OperationLaws.{plus-times-mod, plus_bits, times_bytes-below}
use Rattle.field.proofs.Symbol.plus_product.Goals as goal

pub returns-then-p-eq16 : goal.returns-then-p-eq16
returns-then-p-eq16 c =
    let o : Operand 16 c.args.self.value = rw c.if-p-eq16.true at c.requires.operand in
    rw (c.product-product.ensures, c.if-p-eq16.true) (sym (plus_bits o.below (times_bytes-below o.size c.args.x.value c.args.y.value)))

pub returns : goal.returns
returns c =
    let a = c.args in
    c.reduce.ensures
    ∙ rw (c.from.ensures, c.from-2.ensures, c.from-3.ensures) (sym (plus-times-mod a.p c.if-p-eq16.false a.self.value a.x.value a.y.value))
