-- `field::Symbol::one` meets its contract: the constant is the ring's one.
use mathlib.Core.Path.{sym}
use native.Mathlib.Omega.{arith}
use Rattle.field.proofs.SymbolLaws.{symbol-own}
use Rattle.field.proofs.Symbol.one.Goals as goal

pub returns : goal.returns
returns c = sym (symbol-own c.args.p (omega arith))
