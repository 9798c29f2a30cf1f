-- `field::Symbol::zero` meets its contract: the constant is the ring's zero.
use mathlib.Core.Path.{sym}
use Rattle.field.proofs.SymbolLaws.{zero-byte}
use Rattle.field.proofs.Symbol.zero.Goals as goal

pub returns : goal.returns
returns c = sym (zero-byte c.args.p)
