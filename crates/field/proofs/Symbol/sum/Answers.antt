-- `field::Symbol::sum` meets its contract, in the field of 16 and modulo p.
use mathlib.Core.Path.{sym}
use Rattle.field.specs.Operations.{Operands}
use Rattle.field.proofs.OperationLaws.{plus-mod, plus_bits}
use Rattle.field.proofs.Symbol.sum.Goals as goal

pub returns-then-p-eq16 : goal.returns-then-p-eq16
returns-then-p-eq16 c =
    let o : Operands 16 c.args.self.value c.args.other.value = rw c.if-p-eq16.true at c.requires in
    rw c.if-p-eq16.true (sym (plus_bits o.left o.right))

pub returns : goal.returns
returns c =
    let a = c.args in
    sym (plus-mod a.p c.if-p-eq16.false a.self.value a.other.value)
