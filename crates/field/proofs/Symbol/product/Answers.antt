-- `field::Symbol::product` meets its contract modulo p: a product of two symbols is reducible.
use mathlib.Core.Path.{sym, ◌∙◌}
use Rattle.field.proofs.OperationLaws.{times-mod}
use Rattle.field.proofs.Symbol.product.Goals as goal

pub returns : goal.returns
returns c =
    let a = c.args in
    c.reduce.ensures ∙ rw (c.from.ensures, c.from-2.ensures) (sym (times-mod a.p c.if-p-eq16.false a.self.value a.other.value))
