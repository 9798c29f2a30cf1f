use mathlib.Core.Path.{◌≡◌}
use Prim.Native.Nat.{ℕ, ◌/◌, ◌^◌, ◌<◌}
use Rattle.field.specs.Field.{pow}
use Rattle.field.specs.Symbols.{Element, symbol, symbols, product_of}
use Rattle.field.proofs.Symbol.power.Given as goal

-- r times b to the power n
abbrev pub times_power : (p r b n : ℕ) → Element p
times_power p r b n = product_of p (symbol p r) (pow (symbols p).ring (symbol p b) n)

abbrev pub invariant-loop-bit : goal.invariant-loop-bit
invariant-loop-bit l =
    (l.result.value < l.p)
    × (l.base.value < l.p)
    × (times_power l.p l.result.value l.base.value (l.exponent / 2 ^ l.bit) ≡ pow (symbols l.p).ring (symbol l.p l.initial.base.value) l.exponent)
