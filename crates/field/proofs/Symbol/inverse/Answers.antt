-- `field::Symbol::inverse` meets its contract: the power p - 2 is the inverse.
use mathlib.Core.Path.{ap, ◌∙◌}
use Rattle.field.specs.Symbols.{Element, symbol}
use Rattle.field.specs.Operations.{inv_byte, pow_byte}
use Rattle.field.proofs.SymbolLaws.{power-inverse}
use Rattle.field.proofs.Symbol.inverse.Goals as goal

pub returns : goal.returns
unfolding inv_byte pow_byte
returns c = c.power.ensures ∙ ap (λ (x : Element c.args.p). x.byte) (power-inverse c.requires.size (symbol c.args.p c.args.self.value))
