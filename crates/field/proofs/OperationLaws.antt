-- The bytes that the operations give: as remainders or as bits, which the code computes, and as symbols, for the algebra.
use mathlib.Core.Path.{◌≡◌, sym, ap, ◌∙◌}
use mathlib.Core.Logic.{◌≢◌}
use Prim.Native.Nat.{ℕ, ◌+◌, ◌-◌, ◌*◌, ◌%◌, ◌<◌}
use native.Mathlib.Nat.{mod-eq_of_lt, mod-add-mod, add-mod-mod}
use native.Mathlib.Omega.{arith}
use lib.Bits.{bit_xor}
use Rattle.field.specs.Field.{pow}
use Rattle.field.specs.BitPolynomials.{bit_product, bit_remainder}
use Rattle.field.specs.Symbols.{symbol, sum_of, product_of, negative_of, inverse_of, symbols}
use Rattle.field.specs.Operations.{plus_bytes, minus_bytes, times_bytes, neg_byte, inv_byte, pow_byte, Listed}
use Rattle.field.proofs.RingLaws.{neg-mul}
use Rattle.field.proofs.SymbolLaws.{mod-mul, mul-mod, byte-symbol, symbol-byte, symbol-plus, symbol-times, symbol-opposite, symbols-ring}
use Rattle.field.proofs.SymbolLaws.{not-sixteen, byte-below}
use Rattle.field.proofs.Tests.{equal-at, equal-at-two}

module _ (p : ℕ) where
  -- as symbols
  pub symbol-minus_bytes : (a b : ℕ) → symbol p (minus_bytes p a b) ≡ sum_of p (symbol p a) (negative_of p (symbol p b))
  unfolding minus_bytes
  symbol-minus_bytes a b = symbol-byte p _

  pub symbol-times_bytes : (a b : ℕ) → symbol p (times_bytes p a b) ≡ product_of p (symbol p a) (symbol p b)
  unfolding times_bytes
  symbol-times_bytes a b = symbol-byte p _

  pub symbol-neg_byte : (a : ℕ) → symbol p (neg_byte p a) ≡ negative_of p (symbol p a)
  unfolding neg_byte
  symbol-neg_byte a = symbol-byte p _

  pub symbol-inv_byte : (a : ℕ) → symbol p (inv_byte p a) ≡ inverse_of p (symbol p a)
  unfolding inv_byte
  symbol-inv_byte a = symbol-byte p _

  pub symbol-pow_byte : (a n : ℕ) → symbol p (pow_byte p a n) ≡ pow (symbols p).ring (symbol p a) n
  unfolding pow_byte
  symbol-pow_byte a n = symbol-byte p _

  -- as remainders, in the fields modulo p
  module _ (other : p ≢ 16) where
    pub plus-mod : (a b : ℕ) → plus_bytes p a b ≡ (a + b) % p
    unfolding plus_bytes sum_of
    plus-mod a b = rw (plus_bytes, sum_of, not-sixteen p other) (simp (byte-symbol, mod-add-mod, add-mod-mod))

    pub times-mod : (a b : ℕ) → times_bytes p a b ≡ a * b % p
    unfolding times_bytes product_of
    times-mod a b = rw (times_bytes, product_of, not-sixteen p other) (simp (byte-symbol, mod-mul, mul-mod))

    pub neg-mod : {a : ℕ} → a < p → neg_byte p a ≡ (p - a) % p
    unfolding neg_byte negative_of
    neg-mod {a} h = rw (neg_byte, negative_of, not-sixteen p other) (simp (byte-symbol, mod-eq_of_lt h))

    pub minus-mod : (a : ℕ) {b : ℕ} → b < p → minus_bytes p a b ≡ (a + (p - b)) % p
    unfolding minus_bytes sum_of negative_of
    minus-mod a {b} h = rw (minus_bytes, sum_of, negative_of, not-sixteen p other) (simp (byte-symbol, mod-add-mod, add-mod-mod, mod-eq_of_lt h))

    -- a plus b times c, with one remainder
    pub plus-times-mod : (a b c : ℕ) → plus_bytes p a (times_bytes p b c) ≡ (a + b * c) % p
    plus-times-mod a b c = rw (plus-mod, times-mod) (add-mod-mod a (b * c) p)

    -- a less c times b, with one remainder
    pub minus-times-mod : {c : ℕ} (a b : ℕ) → c < p → minus_bytes p a (times_bytes p c b) ≡ (a + (p - c) * b) % p
    unfolding minus_bytes
    minus-times-mod {c} a b h =
        rw (
          ← byte-symbol p (a + (p - c) * b),
          symbol-plus p other,
          symbol-times p other,
          symbol-opposite p other h,
          minus_bytes,
          symbol-times_bytes,
          neg-mul (symbols-ring p (omega arith)) (symbol p c) (symbol p b),
        )

-- as bits, in the field of 16: antt computes them at all its numbers
module _ {a b : ℕ} (h : a < 16) (k : b < 16) where
  pub plus_bits : plus_bytes 16 a b ≡ bit_xor a b
  unfolding plus_bytes sum_of symbol
  plus_bits = equal-at-two 16 (plus_bytes 16) bit_xor tt h k

  pub symbol-plus_bits : symbol 16 (bit_xor a b) ≡ sum_of 16 (symbol 16 a) (symbol 16 b)
  unfolding plus_bytes
  symbol-plus_bits = ap (symbol 16) (sym plus_bits) ∙ symbol-byte 16 (sum_of 16 (symbol 16 a) (symbol 16 b))

  pub minus_bits : minus_bytes 16 a b ≡ bit_xor a b
  unfolding minus_bytes sum_of negative_of symbol
  minus_bits = equal-at-two 16 (minus_bytes 16) bit_xor tt h k

  -- the code makes its masks of the first factor and shifts the second
  pub times_bits : times_bytes 16 a b ≡ bit_remainder (bit_product b a)
  unfolding times_bytes product_of symbol bit_product bit_remainder
  times_bits = equal-at-two 16 (times_bytes 16) (λ a b. bit_remainder (bit_product b a)) tt h k

pub neg_bits : {a : ℕ} → a < 16 → neg_byte 16 a ≡ a
unfolding neg_byte negative_of symbol
neg_bits = equal-at 16 (neg_byte 16) (λ a. a) tt

-- every operation gives a symbol's byte
module _ {p : ℕ} (l : Listed p) where
  pub minus_bytes-below : (a b : ℕ) → minus_bytes p a b < p
  unfolding minus_bytes
  minus_bytes-below a b = byte-below l (sum_of p (symbol p a) (negative_of p (symbol p b)))

  pub times_bytes-below : (a b : ℕ) → times_bytes p a b < p
  unfolding times_bytes
  times_bytes-below a b = byte-below l (product_of p (symbol p a) (symbol p b))

  pub neg_byte-below : (a : ℕ) → neg_byte p a < p
  unfolding neg_byte
  neg_byte-below a = byte-below l (negative_of p (symbol p a))

  pub inv_byte-below : (a : ℕ) → inv_byte p a < p
  unfolding inv_byte
  inv_byte-below a = byte-below l (inverse_of p (symbol p a))

  pub pow_byte-below : (a n : ℕ) → pow_byte p a n < p
  unfolding pow_byte
  pow_byte-below a n = byte-below l (pow (symbols p).ring (symbol p a) n)
