-- `BitSum::symbol` meets the contract of `RunningSum`.
use mathlib.Core.Path.{sym}
use Rattle.field.proofs.SymbolLaws.{symbol-own}
use Rattle.field.proofs.sixteen.BitSumRunningSum.symbol.Goals as goal

pub returns : goal.returns
returns c = sym (symbol-own 16 c.args.self.low)
