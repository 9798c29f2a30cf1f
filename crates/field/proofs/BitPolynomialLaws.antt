-- Bit polynomials of seven bits, divided by x^4 + x + 1: the remainder is the one that four bits can hold. antt computes it at all of them.
use mathlib.Core.Path.{◌≡◌}
use Prim.Native.Nat.{ℕ, zero, suc, ◌+◌, ◌*◌, ◌^◌, ◌<◌}
use lib.Bits.{bit_xor}
use lib.Dec.{eqb, ltb, ltb→lt}
use Rattle.field.specs.BitPolynomials.{bit, bit_product, modulus, bit_remainder}
use Rattle.field.proofs.Tests.{all, all-at, equal-at}

-- a product of four bits and four has seven
pub product-low : {a b : ℕ} → a < 16 → b < 16 → bit_product a b < 128
unfolding bit_product
product-low {a} {b} h k =
    ltb→lt (bit_product a b) 128 (all-at 16 (λ y. ltb (bit_product a y) 128) (all-at 16 (λ x. all 16 (λ y. ltb (bit_product x y) 128)) tt a h) b k)

pub remainder-low : {z : ℕ} → z < 128 → bit_remainder z < 16
unfolding bit_remainder
remainder-low {z} h = ltb→lt (bit_remainder z) 16 (all-at 128 (λ z. ltb (bit_remainder z) 16) tt z h)

-- the powers of x by which multiples were taken off
abbrev quotient_down : ℕ → ℕ → ℕ
quotient_down zero z = 0
quotient_down (suc n) z = 2 ^ n * bit (n + 4) z + quotient_down n (bit_xor z (modulus * 2 ^ n * bit (n + 4) z))

-- each of seven bits is a multiple of x^4 + x + 1 and its remainder, added up
pub divides : {z : ℕ} → z < 128 → (q : ℕ) × (q < 8) × (bit_xor (bit_product modulus q) (bit_remainder z) ≡ z)
unfolding bit_product bit_remainder
divides {z} h = (
  quotient_down 3 z,
  ltb→lt (quotient_down 3 z) 8 (all-at 128 (λ z. ltb (quotient_down 3 z) 8) tt z h),
  equal-at 128 (λ z. bit_xor (bit_product modulus (quotient_down 3 z)) (bit_remainder z)) (λ z. z) tt h,
)

-- and of no other: a multiple and four bits leave these four bits
pub leaves : {q r : ℕ} → q < 8 → r < 16 → bit_remainder (bit_xor (bit_product modulus q) r) ≡ r
unfolding bit_product bit_remainder
leaves {q} {r} h k =
    equal-at 16 (λ r. bit_remainder (bit_xor (bit_product modulus q) r)) (λ r. r)
    (all-at 8 (λ q. all 16 (λ r. eqb (bit_remainder (bit_xor (bit_product modulus q) r)) r)) tt q h) k
