-- `ModuloFactor::times` meets the contract of `Factor`.
use mathlib.Core.Path.{sym, ◌∙◌}
use Rattle.field.proofs.OperationLaws.{times-mod}
use Rattle.field.proofs.modulo.ModuloFactorFactor.times.Goals as goal

pub returns : goal.returns
returns c =
    let f = c.args.self.now in
    c.reduce.ensures ∙ rw (c.from.ensures, c.from-2.ensures) (sym (times-mod f.p f.not_sixteen f.c.value c.args.x))
