-- `ModuloSum::symbol` meets the contract of `RunningSum`.
use mathlib.Core.Path.{sym}
use Rattle.field.proofs.SymbolLaws.{byte-symbol}
use Rattle.field.proofs.modulo.ModuloSumRunningSum.symbol.Goals as goal

pub returns : goal.returns
returns c = rw c.from.ensures (sym (byte-symbol c.args.self.p c.args.self.sum))
