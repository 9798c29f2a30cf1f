-- Encoding: byte s of the word is the message's value at point s. Rules: section 7.
--   value_at p xs a    the value at the point a of the polynomial whose coefficients the bytes xs are
--   encode_table       when encode refuses; n is the count of points and k the message's length
--   Encoded            what encode leaves: the number, and every byte of the lent word
use Rattle.std.specs.Prelude.{◌≡◌, ◌⊎◌, List, [], ◌∷◌, ℕ, ◌≤◌, ◌<◌, length, get_or}
use Rattle.field.specs.Symbols.{Element, symbol, symbols, symbols_of}
use Rattle.poly.specs.Polynomials.{value}
use Rattle.poly.specs.Table.{Refusal, First, NotListed, BadCount, BadDegree, TooLarge, Repeated, TooShort}

abbrev pub value_at : (p : ℕ) → List ℕ → ℕ → Element p
value_at p xs a = value (symbols p).ring (symbol p a) (length xs) (symbols_of p xs)

abbrev pub encode_table : ℕ → List ℕ → List ℕ → List ℕ → List Refusal
encode_table p points message word =
    record { number = 1; applies = NotListed p } ∷
    record { number = 2; applies = BadCount p (length points) } ∷
    record { number = 4; applies = BadDegree (length points) (length message) } ∷
    record { number = 6; applies = TooLarge p points ⊎ TooLarge p message } ∷
    record { number = 7; applies = Repeated points } ∷
    record { number = 9; applies = TooShort (length points) word } ∷
    []

pub record Encoded (p : ℕ) (points message before after : List ℕ) (number : ℕ) : Type 0 where
  pub first : First (encode_table p points message before) number
  pub long : length after ≡ length before
  pub word : number ≡ 0 → (s : ℕ) → s < length points → get_or after s 0 ≡ (value_at p message (get_or points s 0)).byte
  pub rest : (s : ℕ) → (number ≡ 0 → length points ≤ s) → get_or after s 0 ≡ get_or before s 0
