-- `field::Symbol::difference` meets its contract, in the field of 16 and modulo p.
use mathlib.Core.Path.{sym, ◌∙◌}
use Rattle.field.specs.Operations.{Operands}
use Rattle.field.proofs.OperationLaws.{plus_bits, minus-mod, minus_bits}
use Rattle.field.proofs.Symbol.difference.Goals as goal

pub returns-then-p-eq16 : goal.returns-then-p-eq16
returns-then-p-eq16 c =
    let o : Operands 16 c.args.self.value c.args.other.value = rw c.if-p-eq16.true at c.requires in
    c.sum.ensures ∙ rw c.if-p-eq16.true (plus_bits o.left o.right ∙ sym (minus_bits o.left o.right))

pub returns : goal.returns
returns c = sym (minus-mod c.args.p c.if-p-eq16.false c.args.self.value c.requires.right)
