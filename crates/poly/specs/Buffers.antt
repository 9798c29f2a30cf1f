-- What the functions on lent bytes ask and give.
--   Decided answer P        the answer is true where P holds and false where it does not
--   AllBelow p xs           every byte is below p
--   Coefficients p a xs     p is listed, and a and every byte of xs are below p
--   from p xs at            the x-polynomial whose coefficients stand from the byte `at` on
--   Factors p f at len xs   p is listed, and every byte of f and of the len bytes from `at` on is below p; len is within what a sum of products
--                           can hold
--   product_from p f xs at  f times that x-polynomial
--   Kept at len xs ys       only the len bytes from `at` on may differ
--   Product                 those bytes become the coefficients of the product, as far as they go
--   Halves p a b work       p is listed, and a, b and all 64 bytes are below p
--   correction_of p a b work (h (a) - b) / e (a), with h in the first 32 bytes and e in the next 32, as a byte
--   Places p points word    received places: p is listed, and they are at most p, as many points as symbols, all different, every byte below p
--   Interpolated            after s places: h through them in the first 32 bytes, the product of x - point in the next 32
use Rattle.std.specs.Prelude.{◌≡◌, Bool, true, false, ◌⊎◌, List, ℕ, ◌+◌, ◌≤◌, ◌<◌, length, get_or, take, drop}
use Rattle.field.specs.Symbols.{symbol, symbols, symbols_of}
use Rattle.field.specs.Operations.{minus_bytes, times_bytes, inv_byte, Listed}
use Rattle.field.specs.Kernels.{Region}
use Rattle.poly.specs.Polynomials.{Seq, mul_s, locator, Through}
use Rattle.poly.specs.Table.{Repeated}
use Rattle.poly.specs.Encode.{value_at}

pub record Decided (answer : Bool) (P : Type 0) : Type 0 where
  pub holds : answer ≡ true → P
  pub fails : answer ≡ false → P → ⊥

abbrev pub AllBelow : ℕ → List ℕ → Type 0
AllBelow p xs = (i : ℕ) → i < length xs → get_or xs i 0 < p

pub record Coefficients (p a : ℕ) (xs : List ℕ) : Type 0 where
  pub size : Listed p
  pub point : a < p
  pub below : AllBelow p xs

abbrev pub from : (p : ℕ) → List ℕ → ℕ → Seq (symbols p).ring
from p xs at = λ i. symbol p (get_or xs (at + i) 0)

pub record Factors (p : ℕ) (f : List ℕ) (at len : ℕ) (xs : List ℕ) : Type 0 where
  pub size : Listed p
  pub factor : AllBelow p f
  pub region : Region p at len xs
  pub short : len ≤ 65536

abbrev pub product_from : (p : ℕ) → List ℕ → List ℕ → ℕ → Seq (symbols p).ring
product_from p f xs at = mul_s (symbols p).ring (symbols_of p f) (from p xs at)

pub record Kept (at len : ℕ) (before after : List ℕ) : Type 0 where
  pub long : length after ≡ length before
  pub same : (q : ℕ) → (q < at) ⊎ (at + len ≤ q) → get_or after q 0 ≡ get_or before q 0

pub record Product (p : ℕ) (f : List ℕ) (at len : ℕ) (before after : List ℕ) : Type 0 where
  pub kept : Kept at len before after
  pub product : (i : ℕ) → i < len → get_or after (at + i) 0 ≡ (product_from p f before at i).byte

pub record Halves (p a b : ℕ) (work : List ℕ) : Type 0 where
  pub size : Listed p
  pub point : a < p
  pub wanted : b < p
  pub long : length work ≡ 64
  pub below : AllBelow p work

abbrev pub correction_of : ℕ → ℕ → ℕ → List ℕ → ℕ
correction_of p a b work = times_bytes p (minus_bytes p (value_at p (take 32 work) a).byte b) (inv_byte p (value_at p (drop 32 work) a).byte)

pub record Places (p : ℕ) (points word : List ℕ) : Type 0 where
  pub size : Listed p
  pub count : length points ≤ p
  pub same : length word ≡ length points
  pub points_below : AllBelow p points
  pub word_below : AllBelow p word
  pub different : Repeated points → ⊥

pub record Interpolated (p : ℕ) (points word : List ℕ) (s : ℕ) (work : List ℕ) : Type 0 where
  pub long : length work ≡ 64
  pub h : Seq (symbols p).ring
  pub through : Through (symbols p).ring s (symbols_of p points) (symbols_of p word) h
  pub low : (i : ℕ) → i < 32 → get_or work i 0 ≡ (h i).byte
  pub high : (i : ℕ) → i < 32 → get_or work (32 + i) 0 ≡ (locator (symbols p).ring s (symbols_of p points) i).byte
