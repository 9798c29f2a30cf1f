-- `RemainderFactor::take_off` meets the contract of `Factor`.
use mathlib.Core.Path.{sym}
use Rattle.field.proofs.OperationLaws.{minus-times-mod}
use Rattle.kernels.proofs.RemainderFactorFactor.take_off.Goals as goal

pub returns : goal.returns
returns c =
    let f = c.args.self.now in
    rw (c.from.ensures, c.from-2.ensures, c.from-3.ensures, c.from-4.ensures)
    (sym (minus-times-mod f.p f.not_sixteen c.args.x c.args.y c.requires.operands.left))
