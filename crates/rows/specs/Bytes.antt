-- Curves and rows in lent bytes. With W = m n + (l - m)(k - 1), a slot is W + 1 bytes, the x-polynomial of one power of y, lowest power of x
-- first; a curve is l + 1 slots by rising power of y, and the rows are l + 1 curves, row by row. Rules: section 6.
--   width n k m l       W
--   shape p n k m l     the numbers by which bytes are read: p, u = k - 1, W and l
--   slot S              the bytes of a slot; curve_bytes S, rows_bytes S  of a curve, of the rows
--   place S i j e       where the coefficient of x^e y^j of row i stands
--   rows_of S xs        the rows that the bytes xs are; zero outside of the slots
--   Holds S xs rows     the bytes xs are these rows, each coefficient below p
--   HoldsCurve S xs Q   the bytes xs are the curve Q
use Rattle.std.specs.Prelude.{◌≡◌, List, ℕ, suc, ◌+◌, ◌-◌, ◌*◌, ◌≤◌, leb, get_or}
use Rattle.field.specs.Symbols.{symbol, select, symbols}
use Rattle.curves.specs.Curves.{Curve}
use Rattle.rows.specs.declared.Shape.{Shape}

abbrev pub width : ℕ → ℕ → ℕ → ℕ → ℕ
width n k m l = m * n + (l - m) * (k - 1)

abbrev pub shape : ℕ → ℕ → ℕ → ℕ → ℕ → Shape
shape p n k m l = record { p = p; u = k - 1; width = width n k m l; l = l }

abbrev pub slot : Shape → ℕ
slot S = suc S.width

abbrev pub curve_bytes : Shape → ℕ
curve_bytes S = suc S.l * slot S

abbrev pub rows_bytes : Shape → ℕ
rows_bytes S = suc S.l * curve_bytes S

abbrev pub place : Shape → ℕ → ℕ → ℕ → ℕ
place S i j e = i * curve_bytes S + j * slot S + e

unfoldable pub rows_of : (S : Shape) → List ℕ → ℕ → Curve (symbols S.p).ring
rows_of S xs i j e = symbol S.p (select (leb i S.l) (select (leb j S.l) (select (leb e S.width) (get_or xs (place S i j e) 0) 0) 0) 0)

abbrev pub Holds : (S : Shape) → List ℕ → (ℕ → Curve (symbols S.p).ring) → Type 0
Holds S xs rows = (i j e : ℕ) → i ≤ S.l → j ≤ S.l → e ≤ S.width → get_or xs (place S i j e) 0 ≡ (rows i j e).byte

abbrev pub HoldsCurve : (S : Shape) → List ℕ → Curve (symbols S.p).ring → Type 0
HoldsCurve S xs Q = (j e : ℕ) → j ≤ S.l → e ≤ S.width → get_or xs (j * slot S + e) 0 ≡ (Q j e).byte
