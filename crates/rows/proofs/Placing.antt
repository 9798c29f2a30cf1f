-- Where a coefficient stands among the bytes of the rows, that each byte is one coefficient's, and the rows that bytes are.
--   slot-end, row-end    slot j ends within its curve, row i within the rows; rows-apart, place-apart  rows do not overlap
--   curve-some, rows-some  a curve and the rows take bytes; curve-small, rows-small, lift-inside   bounds of an accepted request
--   in-curve, in-rows    the coefficient that a byte is
--   rows_of-at, -byte     a coefficient and its byte; rows_of_boxed  there is none outside; rows_of-null  it is zero where its byte is
--   holds-bytes, -own    bytes that hold rows are below p, and those below p hold their own
--   light-row, -curve    no term above the width, said of the bytes and of the curve
use mathlib.Core.Path.{◌≡◌, refl, sym, ◌∙◌}
use mathlib.Core.Bool.{Bool, true, false}
use mathlib.Core.Logic.{◌⊎◌, inl, inr}
use mathlib.Core.List.{List}
use Prim.Native.Nat.{ℕ, zero, suc, ◌+◌, ◌*◌, ◌/◌, ◌%◌, ◌≤◌, ◌<◌, zero-le}
use native.Mathlib.Nat.{suc-mul, mul-le-mul, mul-le-mul_left, mul-le-mul_right, mod-lt, div-add-mod', div-lt_iff_lt-mul}
use native.Mathlib.Decide.{dec_le, dec_lt}
use native.Mathlib.Omega.{arith}
use lib.Dec.{leb}
use lib.ListN.{length, get_or}
use borrow.Author.Tests.{le-leb, lt-leb}
use Rattle.field.specs.Symbols.{symbol, select, symbols}
use Rattle.field.proofs.SymbolLaws.{symbol-own, byte-below, zero-byte}
use Rattle.poly.specs.Limits.{height_most, width_most, curve_most, rows_most}
use Rattle.curves.specs.Curves.{Curve, Under}
use Rattle.rows.specs.Bytes.{slot, curve_bytes, rows_bytes, place, rows_of, Holds}
use Rattle.rows.specs.Work.{Fine, Bytes, LightRow}
use Rattle.rows.specs.declared.Shape.{Shape}

-- of blocks of n bytes, block i ends where a later one begins, or before
pub block-end : (n : ℕ) {i k : ℕ} → i < k → i * n + n ≤ k * n
block-end n {i} {k} h = rw (suc-mul i n) at (mul-le-mul_right n h)

module _ (S : Shape) where
  pub slot-end : {j : ℕ} → j ≤ S.l → j * slot S + slot S ≤ curve_bytes S
  slot-end h = block-end (slot S) (omega arith)

  pub row-end : {i : ℕ} → i ≤ S.l → i * curve_bytes S + curve_bytes S ≤ rows_bytes S
  row-end h = block-end (curve_bytes S) (omega arith)

  pub rows-apart : {i k : ℕ} → i < k → i * curve_bytes S + curve_bytes S ≤ k * curve_bytes S
  rows-apart h = block-end (curve_bytes S) h

  pub slot-inside : {j e : ℕ} → j ≤ S.l → e ≤ S.width → j * slot S + e < curve_bytes S
  slot-inside {j} {e} h k = let a = slot-end h in omega arith

  pub place-inside : {i j e : ℕ} → i ≤ S.l → j ≤ S.l → e ≤ S.width → place S i j e < rows_bytes S
  place-inside {i} {j} {e} g h k =
      let a = row-end g in
      let b = slot-inside h k in
      omega arith

  -- no bytes are too few
  pub curve-some : 0 < curve_bytes S
  curve-some = omega (arith, slot-inside {j = 0} {e = 0} (omega arith) (omega arith))

  pub rows-some : 0 < rows_bytes S
  rows-some = omega (arith, place-inside {i = 0} {j = 0} {e = 0} (omega arith) (omega arith) (omega arith))

  -- a byte of another row is outside row r
  pub place-apart : {i r j e : ℕ} → (i ≡ r → ⊥) → j ≤ S.l → e ≤ S.width
      → (place S i j e < r * curve_bytes S) ⊎ (r * curve_bytes S + curve_bytes S ≤ place S i j e)
  place-apart {i} {r} {j} {e} n h k = go (dec_lt i r)
    where
      go : Dec (i < r) → (place S i j e < r * curve_bytes S) ⊎ (r * curve_bytes S + curve_bytes S ≤ place S i j e)
      go (yes l) = let a = rows-apart l in let b = slot-inside h k in inl (omega arith)
      go (no l) = let a = rows-apart {i = r} {k = i} (omega arith) in inr (omega arith)

-- they are small enough to count with, and a power of y alone weighs no more than the width
module _ {S : Shape} (f : Fine S) where
  pub curve-small : curve_bytes S ≤ curve_most
  curve-small = mul-le-mul {n₁ = suc S.l} {m₁ = slot S} {n₂ = suc height_most} {m₂ = suc width_most} (omega arith) (omega arith)

  pub rows-small : rows_bytes S ≤ rows_most
  rows-small = mul-le-mul {n₁ = suc S.l} {m₁ = curve_bytes S} {n₂ = suc height_most} {m₂ = curve_most} (omega arith) curve-small

  pub lift-inside : {j : ℕ} → j ≤ S.l → S.u * j ≤ S.width
  lift-inside {j} h = let a = mul-le-mul_left S.u h in omega arith

-- a byte of a curve is a coefficient's
pub record InCurve (S : Shape) (q : ℕ) : Type 0 where
  pub power : ℕ
  pub degree : ℕ
  pub low : power ≤ S.l
  pub short : degree ≤ S.width
  pub is : q ≡ power * slot S + degree

-- and a byte of the rows
pub record InRows (S : Shape) (q : ℕ) : Type 0 where
  pub row : ℕ
  pub power : ℕ
  pub degree : ℕ
  pub inside : row ≤ S.l
  pub low : power ≤ S.l
  pub short : degree ≤ S.width
  pub is : q ≡ place S row power degree

-- division with remainder: the block that a byte is in, and where in it
divide : (n q k : ℕ) → 0 < n → q < k * n → (q / n < k) × (q % n < n) × (q ≡ q / n * n + q % n)
divide n q k h l = ((div-lt_iff_lt-mul h).1 l, mod-lt q h, sym (div-add-mod' q n))

module _ (S : Shape) where
  pub in-curve : {q : ℕ} → q < curve_bytes S → InCurve S q
  in-curve {q} h =
      let d = divide (slot S) q (suc S.l) (omega arith) h in
      let a = d.0 in
      let b = d.1 in
      record { power = q / slot S; degree = q % slot S; low = omega arith; short = omega arith; is = d.2 }

  pub in-rows : {q : ℕ} → q < rows_bytes S → InRows S q
  in-rows {q} h =
      let n : 0 < curve_bytes S = let z = slot-inside S {j = zero} {e = zero} (omega arith) (omega arith) in omega arith in
      let d = divide (curve_bytes S) q (suc S.l) n h in
      let c = in-curve d.1 in
      let a = d.0 in
      let b = d.2 in
      let e = c.is in
      record { row = q / curve_bytes S; power = c.power; degree = c.degree; inside = omega arith; low = c.low; short = c.short; is = omega arith }

module _ (S : Shape) (xs : List ℕ) where
  pub rows_of-at : {i j e : ℕ} → i ≤ S.l → j ≤ S.l → e ≤ S.width → rows_of S xs i j e ≡ symbol S.p (get_or xs (place S i j e) 0)
  unfolding rows_of
  rows_of-at {i} {j} {e} g h k = rw (le-leb i S.l g, le-leb j S.l h, le-leb e S.width k)

  -- no coefficient outside the rows, the slots and the width
  pub rows_of_boxed : (i j e : ℕ) → (S.l < i) ⊎ ((S.l < j) ⊎ (S.width < e)) → rows_of S xs i j e ≡ symbol S.p 0
  unfolding rows_of
  rows_of_boxed i j e (inl h) = rw (lt-leb i S.l h)
  rows_of_boxed i j e (inr (inl h)) = rw (lt-leb j S.l h) (go (leb i S.l))
    where
      go : (b : Bool) → symbol S.p (select b 0 0) ≡ symbol S.p 0
      go true = refl
      go false = refl
  rows_of_boxed i j e (inr (inr h)) = rw (lt-leb e S.width h) (go (leb i S.l) (leb j S.l))
    where
      go : (a b : Bool) → symbol S.p (select a (select b 0 0) 0) ≡ symbol S.p 0
      go true true = refl
      go true false = refl
      go false b = refl

  -- a coefficient is zero where its byte is, or where it has none
  pub rows_of-null : {i : ℕ} → i ≤ S.l → (j e : ℕ) → (j ≤ S.l → e ≤ S.width → get_or xs (place S i j e) 0 ≡ 0) → rows_of S xs i j e ≡ symbol S.p 0
  rows_of-null {i} g j e z = go (dec_le j S.l) (dec_le e S.width)
    where
      go : Dec (j ≤ S.l) → Dec (e ≤ S.width) → rows_of S xs i j e ≡ symbol S.p 0
      go (yes h) (yes k) = rw (rows_of-at g h k, z h k)
      go (yes h) (no k) = rows_of_boxed i j e (inr (inr (omega arith)))
      go (no h) k = rows_of_boxed i j e (inr (inl (omega arith)))

-- the bytes that hold rows
module _ (S : Shape) (ys : List ℕ) (rows : ℕ → Curve (symbols S.p).ring) (holds : Holds S ys rows) where
  pub holds-bytes : Fine S → rows_bytes S ≤ length ys → Bytes S ys
  holds-bytes fine room =
      record {
        fine = fine;
        room = room;
        below = λ q h.
            let r = in-rows S h in
            rw (r.is, holds r.row r.power r.degree r.inside r.low r.short)
            (byte-below fine.size (rows r.row r.power r.degree));
      }

module _ {S : Shape} {xs : List ℕ} (b : Bytes S xs) where
  module _ {i j e : ℕ} (g : i ≤ S.l) (h : j ≤ S.l) (k : e ≤ S.width) where
    pub place-below : get_or xs (place S i j e) 0 < S.p
    place-below = b.below (place S i j e) (place-inside S g h k)

    pub rows_of-byte : (rows_of S xs i j e).byte ≡ get_or xs (place S i j e) 0
    rows_of-byte = rw (rows_of-at S xs g h k) (symbol-own S.p place-below)

    pub rows_of-zero : rows_of S xs i j e ≡ symbol S.p 0 → get_or xs (place S i j e) 0 ≡ 0
    rows_of-zero z = sym rows_of-byte ∙ rw z (zero-byte S.p)

  pub holds-own : Holds S xs (rows_of S xs)
  holds-own i j e g h k = sym (rows_of-byte g h k)

  -- no term above the width, of the bytes and of the curve
  pub light-row : {i : ℕ} → i ≤ S.l → Under (symbols S.p).ring S.u (suc S.width) zero (rows_of S xs i) → LightRow S xs i
  light-row {i} g under j e h k l = rows_of-zero g h k (under j e l (λ _. zero-le))

pub light-curve : (S : Shape) (xs : List ℕ) {i : ℕ} → i ≤ S.l → LightRow S xs i
    → Under (symbols S.p).ring S.u (suc S.width) zero (rows_of S xs i)
light-curve S xs g light j e l _ = rows_of-null S xs g j e (λ h k. light j e h k l)
