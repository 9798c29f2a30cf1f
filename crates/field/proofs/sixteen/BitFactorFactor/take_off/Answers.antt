-- `BitFactor::take_off` meets the contract of `Factor`.
use mathlib.Core.Path.{sym}
use Rattle.field.proofs.OperationLaws.{minus_bits, times_bytes-below}
use Rattle.field.proofs.sixteen.BitFactorFactor.take_off.Goals as goal

pub returns : goal.returns
returns c =
    let o = c.requires.operand in
    rw c.product.ensures (sym (minus_bits o.below (times_bytes-below o.size c.args.self.now.c.value c.args.y)))
