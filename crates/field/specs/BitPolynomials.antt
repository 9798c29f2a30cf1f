-- Bit polynomials: bit i of a number is its coefficient of x^i, and coefficients count modulo 2, so a sum is an exclusive or, `bit_xor`. Those of
-- four bits, modulo x^4 + x + 1, are the field of 16 (specs/Symbols). Rules: section 2. That bit_remainder is the remainder of a division:
-- proofs/BitPolynomialLaws.antt.
--   bit i a             the coefficient of x^i
--   terms_below n a b   the sum of a · x^i over the i below n where b has x^i; bit_product a b  the product a · b, for b of four bits
--   modulus             x^4 + x + 1
--   divided_down n z    z less, from the highest of n bits above the four down, modulus · x^i where what is left has x^(i+4)
--   bit_remainder z     the remainder of a product modulo x^4 + x + 1: a product has three bits above the four
use Rattle.std.specs.Prelude.{ℕ, zero, suc, ◌+◌, ◌*◌, ◌/◌, ◌%◌, ◌^◌}
use Rattle.std.specs.Int.Bits.{bit_xor}

abbrev pub bit : ℕ → ℕ → ℕ
bit i a = a / 2 ^ i % 2

abbrev pub terms_below : ℕ → ℕ → ℕ → ℕ
terms_below zero a b = 0
terms_below (suc n) a b = bit_xor (terms_below n a b) (a * 2 ^ n * bit n b)

unfoldable pub bit_product : ℕ → ℕ → ℕ
bit_product a b = terms_below 4 a b

abbrev pub modulus : ℕ
modulus = 2 ^ 4 + 2 ^ 1 + 2 ^ 0

abbrev pub divided_down : ℕ → ℕ → ℕ
divided_down zero z = z
divided_down (suc n) z = divided_down n (bit_xor z (modulus * 2 ^ n * bit (n + 4) z))

unfoldable pub bit_remainder : ℕ → ℕ
bit_remainder z = divided_down 3 z
