-- `ModuloSum::with_product` meets the contract of `RunningSum`.
use Prim.Native.Nat.{◌*◌}
use Rattle.field.proofs.SymbolLaws.{symbol-plus, symbol-times}
use Rattle.field.proofs.modulo.ModuloSumRunningSum.with_product.Goals as goal

pub returns-clause-number : goal.returns-clause-number
returns-clause-number c =
    let s = c.args.self in
    let other = s.not_sixteen in
    rw (c.from.ensures, c.from-2.ensures, symbol-plus s.p other s.sum (c.args.x * c.args.y), symbol-times s.p other c.args.x c.args.y)
