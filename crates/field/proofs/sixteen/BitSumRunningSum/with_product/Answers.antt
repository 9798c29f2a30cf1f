-- `BitSum::with_product` meets the contract of `RunningSum`.
use mathlib.Core.Path.{◌≡◌, sym, ap, ◌∙◌}
use Prim.Native.Nat.{ℕ, ◌<◌}
use lib.Bits.{bit_and, xor_lt, and_mask}
use Rattle.field.specs.Symbols.{symbol}
use Rattle.field.proofs.SymbolLaws.{byte-symbol, symbol-byte}
use Rattle.field.proofs.OperationLaws.{symbol-times_bytes, symbol-plus_bits, times_bytes-below}
use Rattle.field.proofs.sixteen.BitSumRunningSum.with_product.Goals as goal

-- the low four bits of a byte stand for what the byte stands for
symbol-low : (n : ℕ) → symbol 16 (bit_and n 15) ≡ symbol 16 n
symbol-low n = ap (symbol 16) (and_mask n 4 ∙ sym (byte-symbol 16 n)) ∙ symbol-byte 16 (symbol 16 n)

pub invariant_of-result : goal.invariant_of-result
invariant_of-result c =
    let low : c.product-z.result < 16 = rw c.product-z.ensures (times_bytes-below c.requires.size _ _) in
    record { low = xor_lt 4 c.args.self.sum c.product-z.result c.args.self.low low }

pub returns-clause-number : goal.returns-clause-number
returns-clause-number c =
    let low : c.product-z.result < 16 = rw c.product-z.ensures (times_bytes-below c.requires.size _ _) in
    symbol-plus_bits c.args.self.low low
    ∙ rw (c.product-z.ensures, symbol-times_bytes, symbol-low c.args.x, symbol-low c.args.y)
