-- The definitions on small numbers, by computation: over the field of 7, (x - 1) (x - 2) = 2 + 4 x + x^2, and at 5 that is 4 * 3, or 5;
-- (1 + x)^4 has 6 x^2; and the limits that follow from others, as numbers.
use Rattle.std.specs.Prelude.{◌≡◌, refl, List, [], ◌∷◌, ℕ, suc}
use Rattle.field.specs.Field.{Ring, prod}
use Rattle.field.specs.Symbols.{symbol, symbols, sum_of, product_of, negative_of}
use Rattle.poly.specs.Limits.{curve_most, rows_most, messages_most}
use Rattle.poly.specs.Polynomials.{Seq, zero_s, one_s, add_s, mul_s, cons_s, lin, locator, value, binomial}

abbrev seven : Ring
seven = (symbols 7).ring

-- 1, 2, ..
abbrev points : ℕ → seven.Car
points s = symbol 7 (suc s)

abbrev bytes : Seq seven → List ℕ
bytes f = (f 0).byte ∷ (f 1).byte ∷ (f 2).byte ∷ (f 3).byte ∷ []

locator_example : bytes (locator seven 2 points) ≡ 2 ∷ 4 ∷ 1 ∷ 0 ∷ []
unfolding symbol sum_of product_of negative_of prod zero_s one_s add_s mul_s cons_s lin
locator_example = refl

value_example : (value seven (symbol 7 5) 3 (locator seven 2 points)).byte ≡ 5
unfolding symbol sum_of product_of negative_of prod zero_s one_s add_s mul_s cons_s lin value
value_example = refl

binomial_example : binomial 4 2 ≡ 6
unfolding binomial
binomial_example = refl

limits_example : curve_most ∷ rows_most ∷ messages_most ∷ [] ≡ 2169 ∷ 19521 ∷ 240 ∷ []
limits_example = refl
