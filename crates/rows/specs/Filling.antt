-- What the functions that fill the rows ask and give.
--   copied from to len xs     the `len` bytes at `from` brought to `to`
--   Power                     the x-polynomial in a region, times a power of f
--   slots_at p base slot xs   the curve whose slots of `slot` bytes follow each other from `base` on
--   raised                    such a curve times y - h; RaisedSlot  its slot j is in place, Raised  its first slots are
--   HoldsRow S i Q xs         row i is Q
--   FillsLow, FilledLow       row i up to m, (y - h)^i e^(m-i), comes to stand where the row was zero
--   raised_row S i xs         the slots of row i - 1 brought to those of row i, each one further on: y times that row; RaisesRow  what this asks
--   Fills, Filled             the starting rows, by h and e, which are the two halves of 64 bytes
use Rattle.std.specs.Prelude.{◌≡◌, List, ℕ, ◌+◌, ◌-◌, ◌*◌, ◌≤◌, ◌<◌, length, get_or, take, drop}
use Rattle.std.proofs.lemmas.List.Edits.{sets}
use Rattle.field.specs.Field.{pow}
use Rattle.field.specs.Lists.{tabulate}
use Rattle.field.specs.Symbols.{symbols, symbols_of}
use Rattle.poly.specs.Polynomials.{Series, mul_s, lin}
use Rattle.poly.specs.Buffers.{AllBelow, from, Kept}
use Rattle.curves.specs.Curves.{Curve}
use Rattle.curves.specs.Start.{start_row}
use Rattle.rows.specs.Bytes.{slot, curve_bytes, rows_bytes, place, Holds}
use Rattle.rows.specs.Work.{Fine}
use Rattle.rows.specs.declared.Shape.{Shape}

unfoldable pub copied : ℕ → ℕ → ℕ → List ℕ → List ℕ
copied from to len xs = sets xs to (tabulate len (λ i. get_or xs (from + i) 0))

pub record Power (p : ℕ) (f : List ℕ) (count at len : ℕ) (before after : List ℕ) : Type 0 where
  pub kept : Kept at len before after
  pub power : (i : ℕ) → i < len
      → get_or after (at + i) 0 ≡ (mul_s (symbols p).ring (pow (Series (symbols p).ring) (symbols_of p f) count) (from p before at) i).byte

abbrev pub slots_at : (p base slot : ℕ) → List ℕ → Curve (symbols p).ring
slots_at p base slot xs = λ j. from p xs (base + j * slot)

abbrev pub raised : (p : ℕ) → List ℕ → (base slot : ℕ) → List ℕ → Curve (symbols p).ring
raised p h base slot xs = mul_s (Series (symbols p).ring) (lin (Series (symbols p).ring) (symbols_of p h)) (slots_at p base slot xs)

pub record RaisedSlot (p : ℕ) (h : List ℕ) (base slot j : ℕ) (before after : List ℕ) : Type 0 where
  pub kept : Kept (base + j * slot) slot before after
  pub is : (e : ℕ) → e < slot → get_or after (base + j * slot + e) 0 ≡ (raised p h base slot before j e).byte

pub record Raised (p : ℕ) (h : List ℕ) (base slot slots : ℕ) (before after : List ℕ) : Type 0 where
  pub kept : Kept base (slots * slot) before after
  pub is : (j e : ℕ) → j < slots → e < slot → get_or after (base + j * slot + e) 0 ≡ (raised p h base slot before j e).byte

abbrev pub HoldsRow : (S : Shape) → ℕ → Curve (symbols S.p).ring → List ℕ → Type 0
HoldsRow S i Q xs = (j e : ℕ) → j ≤ S.l → e ≤ S.width → get_or xs (place S i j e) 0 ≡ (Q j e).byte

pub record FillsLow (S : Shape) (i m : ℕ) (h e rows : List ℕ) : Type 0 where
  pub fine : Fine S
  pub room : rows_bytes S ≤ length rows
  pub inside : i ≤ S.l
  pub low : i ≤ m
  pub below_h : AllBelow S.p h
  pub below_e : AllBelow S.p e
  pub bare : (q : ℕ) → q < curve_bytes S → get_or rows (i * curve_bytes S + q) 0 ≡ 0

pub record FilledLow (S : Shape) (i m : ℕ) (h e before after : List ℕ) : Type 0 where
  pub kept : Kept (i * curve_bytes S) (curve_bytes S) before after
  pub is : HoldsRow S i (start_row (symbols S.p).ring m (symbols_of S.p e) (symbols_of S.p h) i) after

pub record RaisesRow (S : Shape) (i : ℕ) (xs : List ℕ) : Type 0 where
  pub fine : Fine S
  pub room : rows_bytes S ≤ length xs
  pub some : 0 < i
  pub inside : i ≤ S.l

abbrev pub raised_row : Shape → ℕ → List ℕ → List ℕ
raised_row S i xs = copied ((i - 1) * curve_bytes S) (i * curve_bytes S + slot S) (curve_bytes S - slot S) xs

pub record Fills (S : Shape) (work rows : List ℕ) : Type 0 where
  pub fine : Fine S
  pub room : rows_bytes S ≤ length rows
  pub long : length work ≡ 64
  pub below : AllBelow S.p work

abbrev pub Filled : Shape → ℕ → List ℕ → List ℕ → Type 0
Filled S m work xs = Holds S xs (start_row (symbols S.p).ring m (symbols_of S.p (drop 32 work)) (symbols_of S.p (take 32 work)))
