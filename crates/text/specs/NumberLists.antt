-- Lists of numbers as a value keeps them.
--   padded ns                      the numbers, and zeros that fill the array
--   HoldsNumbers xs count items    the array has the numbers xs, and zeros after them
use Rattle.std.specs.Prelude.{◌≡◌, List, ◌++◌, ℕ, ◌-◌, length, replicate}
use Rattle.poly.specs.Limits.{field_most}

abbrev pub padded : List ℕ → List ℕ
padded ns = ns ++ replicate (field_most - length ns) 0

pub record HoldsNumbers (xs : List ℕ) (count : ℕ) (items : List ℕ) : Type 0 where
  pub count_is : count ≡ length xs
  pub items_are : items ≡ padded xs
