-- The field of 16 by computation: (x^3 + 1) + (x^3 + x^2 + 1) = x^2, (x^3 + 1)(x^3 + x^2 + 1) = x^6 + x^5 + x^2 + 1, and the remainder of that
-- is x^3 + x^2 + x + 1.
use Rattle.std.specs.Prelude.{◌≡◌, refl}
use Rattle.field.specs.BitPolynomials.{bit_product, bit_remainder}
use Rattle.field.specs.Symbols.{symbol, sum_of, product_of}

sum_example : sum_of 16 (symbol 16 9) (symbol 16 13) ≡ symbol 16 4
unfolding symbol sum_of
sum_example = refl

bit-product_example : bit_product 9 13 ≡ 101
unfolding bit_product
bit-product_example = refl

product_example : product_of 16 (symbol 16 9) (symbol 16 13) ≡ symbol 16 15
unfolding symbol product_of bit_product bit_remainder
product_example = refl
