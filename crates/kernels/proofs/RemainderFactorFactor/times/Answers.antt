-- `RemainderFactor::times` meets the contract of `Factor`.
use mathlib.Core.Path.{sym}
use Rattle.field.proofs.OperationLaws.{times-mod}
use Rattle.kernels.proofs.RemainderFactorFactor.times.Goals as goal

pub returns : goal.returns
returns c =
    let f = c.args.self.now in
    rw (c.from.ensures, c.from-2.ensures, c.from-3.ensures) (sym (times-mod f.p f.not_sixteen f.c c.args.x))
