-- `field::Symbol::negative` meets its contract, in the field of 16 and modulo p.
use mathlib.Core.Path.{sym}
use Rattle.field.specs.Operations.{Operand}
use Rattle.field.proofs.OperationLaws.{neg-mod, neg_bits}
use Rattle.field.proofs.Symbol.negative.Goals as goal

pub returns-then-p-eq16 : goal.returns-then-p-eq16
returns-then-p-eq16 c =
    let o : Operand 16 c.args.self.value = rw c.if-p-eq16.true at c.requires in
    rw c.if-p-eq16.true (sym (neg_bits o.below))

pub returns : goal.returns
returns c = sym (neg-mod c.args.p c.if-p-eq16.false c.requires.below)
