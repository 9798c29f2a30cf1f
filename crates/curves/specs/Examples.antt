-- The definitions on small numbers, by computation.
--   The curve x^3 over the field of 3 has multiplicity 3 at (0, 0), and not 4, though its third derivative, 6, is zero there as everywhere.
--   The formula for n = 6, k = 3, m = 2, l = 3.
use Rattle.std.specs.Prelude.{◌≡◌, refl, ℕ, zero, suc, ◌*◌}
use Rattle.std.proofs.Common.{ap, arith}
use Rattle.field.specs.Field.{Ring, pow, multiple, sum}
use Rattle.field.specs.Symbols.{Element, symbol, symbols, same-byte, sum_of, product_of}
use Rattle.poly.specs.Polynomials.{Series, zero_s, cons_s, const_s, binomial, mono}
use Rattle.curves.specs.Curves.{Curve, shifted, Multiplicity}
use Rattle.curves.specs.Start.{total, formula}

abbrev three : Ring
three = (symbols 3).ring

abbrev cube : Curve three
cube = const_s (Series three) (mono three three.𝟙 3)

cube-multiplicity : Multiplicity three 3 4 1 three.𝟘 three.𝟘 cube
unfolding symbol sum_of product_of pow sum zero_s cons_s const_s binomial shifted mono
cube-multiplicity zero zero h = same-byte 3 refl
cube-multiplicity zero (suc zero) h = same-byte 3 refl
cube-multiplicity zero (suc (suc zero)) h = same-byte 3 refl
cube-multiplicity zero (suc (suc (suc j))) h = absurd (omega arith)
cube-multiplicity (suc zero) zero h = same-byte 3 refl
cube-multiplicity (suc zero) (suc zero) h = same-byte 3 refl
cube-multiplicity (suc zero) (suc (suc j)) h = absurd (omega arith)
cube-multiplicity (suc (suc zero)) zero h = same-byte 3 refl
cube-multiplicity (suc (suc zero)) (suc j) h = absurd (omega arith)
cube-multiplicity (suc (suc (suc i))) j h = absurd (omega arith)

cube_not_four : Multiplicity three 4 4 1 three.𝟘 three.𝟘 cube → ⊥
unfolding symbol sum_of product_of pow sum zero_s cons_s const_s binomial shifted mono
cube_not_four h = let e : ◌≡◌ {A = ℕ} 1 0 = ap (λ (x : Element 3). x.byte) (h 3 0 (omega arith)) in omega arith

cube_derivative : (multiple three (3 * 2 * 1) three.𝟙).byte ≡ 0
unfolding symbol sum_of
cube_derivative = refl

formula_example : formula 6 3 2 3 ≡ 33
unfolding total
formula_example = refl
