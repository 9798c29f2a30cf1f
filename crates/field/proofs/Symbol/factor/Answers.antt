-- `field::Symbol::factor` meets its contract: a power 0 is one, and a power 1 is the symbol itself.
use mathlib.Core.Path.{◌≡◌, sym}
use Prim.Native.Nat.{ℕ, ◌%◌}
use native.Mathlib.Omega.{arith}
use Rattle.field.specs.Symbols.{symbol, symbols}
use Rattle.field.specs.Operations.{Operand, pow_byte}
use Rattle.field.proofs.Sums.{pow-zero, pow-one}
use Rattle.field.proofs.SymbolLaws.{symbol-own, symbols-field}
use Rattle.field.proofs.Symbol.factor.Goals as goal

module _ {p a : ℕ} (o : Operand p a) where
  power-zero : 1 ≡ pow_byte p a 0
  unfolding pow_byte
  power-zero = rw (pow_byte, pow-zero (symbols p).ring (symbol p a)) (sym (symbol-own p (omega (arith, o.size))))

  power-one : a ≡ pow_byte p a 1
  unfolding pow_byte
  power-one = rw (pow_byte, pow-one (symbols-field p o.size).ring (symbol p a)) (sym (symbol-own p o.below))

pub returns-then-exponent-eq0 : goal.returns-then-exponent-eq0
returns-then-exponent-eq0 c = rw c.if-exponent-eq0.true (power-zero c.requires)

pub returns : goal.returns
returns c =
    let odd : c.args.exponent % 2 ≡ 1 = omega (arith, c.if-exponent-eq0.false) in
    rw odd (power-one c.requires)
