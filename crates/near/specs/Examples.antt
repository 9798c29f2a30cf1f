-- The definitions on small numbers, by computation, over the field of 7. The word 1, 2, 3 at the points 1, 2, 3 has the curve y + 6x, and
-- with two agreements asked one message, x. The curve (y - x)(y - 2) has the roots x and 2: they have three and two agreements with the
-- word 2, 2, 3, 4 at the points 1 to 4.
use Rattle.std.specs.Prelude.{◌≡◌, refl, List, [], ◌∷◌, ℕ, get_or}
use Rattle.std.proofs.Math.Decide.{ℕ_discrete, dec_le}
use Rattle.field.specs.Symbols.{symbol, symbols, sum_of, product_of, same_symbol}
use Rattle.poly.specs.Polynomials.{zero_s, one_s, add_s, mul_s, cons_s, const_s, value, mono}
use Rattle.curves.specs.Curves.{Curve}
use Rattle.near.specs.Job.{task_of}
use Rattle.near.specs.Lists.{agreements}
use Rattle.near.specs.Search.{curve_at, slice, least, each, some?, level, found}

-- by the coefficients of its x-polynomials
abbrev of_slots : List (List ℕ) → Curve (symbols 7).ring
of_slots slots = λ j e. symbol 7 (get_or (get_or slots j []) e 0)

one-message : found (task_of 7 (1 ∷ 2 ∷ 3 ∷ []) (1 ∷ 2 ∷ 3 ∷ []) 2 2) 2 2 (of_slots ((0 ∷ 6 ∷ []) ∷ (1 ∷ []) ∷ [])) ≡ (0 ∷ 1 ∷ []) ∷ []
unfolding symbol sum_of product_of same_symbol zero_s one_s add_s mul_s cons_s const_s value mono agreements curve_at slice least each some? level ℕ_discrete
    dec_le
one-message = refl

two-messages : found (task_of 7 (1 ∷ 2 ∷ 3 ∷ 4 ∷ []) (2 ∷ 2 ∷ 3 ∷ 4 ∷ []) 2 2) 3 3 (of_slots ((0 ∷ 2 ∷ []) ∷ (5 ∷ 6 ∷ []) ∷ (1 ∷ []) ∷ []))
    ≡ (0 ∷ 1 ∷ []) ∷ (2 ∷ 0 ∷ []) ∷ []
unfolding symbol sum_of product_of same_symbol zero_s one_s add_s mul_s cons_s const_s value mono agreements curve_at slice least each some? level ℕ_discrete
    dec_le
two-messages = refl
