-- `field::sixteen::whole_product` meets its contract: antt computes what the code works out at all pairs of numbers below 16.
use Prim.Native.Nat.{ℕ, ◌*◌, ◌%◌, ◌^◌}
use lib.Bits.{bit_and, bit_xor}
use Rattle.field.specs.BitPolynomials.{bit, bit_product}
use Rattle.field.proofs.Tests.{equal-at-two}
use Rattle.field.proofs.sixteen.whole_product.Goals as goal

-- b under the mask of x^i, times x^i
abbrev term : ℕ → ℕ → ℕ → ℕ
term i a b = bit_and b (bit i a * 15) * 2 ^ i % 2 ^ 8

abbrev whole : ℕ → ℕ → ℕ
whole a b = bit_xor (bit_xor (bit_xor (bit_and b (bit 0 a * 15)) (term 1 a b)) (term 2 a b)) (term 3 a b)

pub returns : goal.returns
unfolding bit_product
returns c =
    let o = c.requires in
    rw (c.mask.ensures, c.mask-2.ensures, c.mask-3.ensures, c.mask-4.ensures)
    (equal-at-two 16 whole (λ a b. bit_product b a) tt o.left o.right)
