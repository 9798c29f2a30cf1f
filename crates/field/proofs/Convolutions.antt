-- A convolution, product by product.
use mathlib.Core.Path.{◌≡◌, refl}
use mathlib.Core.List.{List}
use Prim.Native.Nat.{ℕ, ◌+◌, ◌-◌}
use native.Mathlib.Numerals.{add-one}
use lib.ListN.{get_or}
use Rattle.field.specs.Field.{sum}
use Rattle.field.specs.Symbols.{symbol, sum_of, product_of}
use Rattle.field.specs.Kernels.{convolution}

module _ (p top : ℕ) (f xs : List ℕ) where
  pub convolution-none : symbol p 0 ≡ convolution p top 0 f xs
  unfolding sum
  convolution-none = refl

  -- one product more, to a number that stands for the sum so far
  pub convolution-more : (i n s : ℕ) → symbol p n ≡ convolution p top i f xs
      → symbol p s ≡ sum_of p (symbol p n) (product_of p (symbol p (get_or f i 0)) (symbol p (get_or xs (top - i) 0)))
      → symbol p s ≡ convolution p top (i + 1) f xs
  unfolding sum
  convolution-more i n s is added = rw (add-one i, added, is)
