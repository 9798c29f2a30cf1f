-- Tests that antt computes on given lists, and what they show: the table's refusals 6 and 7 do not apply, and polynomials and curves are
-- those that the bytes say.
use mathlib.Core.Path.{◌≡◌, refl, ap}
use mathlib.Core.Bool.{Bool, not}
use mathlib.Core.List.{List}
use Prim.Native.Nat.{ℕ, suc, ◌+◌, ◌*◌, ◌≤◌}
use native.Mathlib.Omega.{arith}
use lib.Dec.{T, eqb, ltb, ltb→lt, eqb→eq, eqb_refl, T_not}
use lib.ListN.{length, get_or, get_or-eq_default}
use Rattle.field.specs.Field.{FieldLaws}
use Rattle.field.specs.Symbols.{listed, symbol, symbols, same-byte, symbols_of}
use Rattle.field.specs.Operations.{Listed}
use Rattle.field.proofs.SymbolLaws.{is-listed, symbols-field}
use Rattle.field.proofs.Tests.{all, all-at}
use Rattle.poly.specs.Polynomials.{value, Through}
use Rattle.poly.specs.Table.{Repeated}
use Rattle.poly.specs.Buffers.{AllBelow, Places}
use Rattle.poly.proofs.Interpolating.{places-distinct}
use Rattle.poly.proofs.CoprimePowers.{Distinct}
use Rattle.curves.specs.Curves.{Curve}
use Rattle.rows.specs.Bytes.{slot, rows_bytes, HoldsCurve}
use Rattle.rows.specs.Demands.{shape_for}
use Rattle.rows.specs.declared.Shape.{Shape}
use Rattle.rows.proofs.Accepted.{Accepted}
use Rattle.figures.specs.Figures.{three, at_three}

pub seven : Listed 7
unfolding listed
seven = is-listed refl

pub seven-laws : FieldLaws (symbols 7)
seven-laws = symbols-field 7 seven

-- each is below p; no two are equal; the polynomial with the coefficients hs has the values of the word at the points; bytes hold a curve
abbrev pub small : ℕ → List ℕ → Bool
small p xs = all (length xs) (λ i. ltb (get_or xs i 0) p)

abbrev pub distinct : List ℕ → Bool
distinct xs = all (length xs) (λ j. all j (λ i. not (eqb (get_or xs i 0) (get_or xs j 0))))

abbrev pub values : List ℕ → List ℕ → List ℕ → Bool
values points word hs =
    all (length points) (λ s. eqb (value (symbols 7).ring (symbols_of 7 points s) (length points) (symbols_of 7 hs)).byte (symbols_of 7 word s).byte)

abbrev same : (S : Shape) → Curve (symbols S.p).ring → List ℕ → ℕ → ℕ → Bool
same S Q bytes j e = eqb (get_or bytes (j * slot S + e) 0) (Q j e).byte

abbrev pub spelt : (S : Shape) → Curve (symbols S.p).ring → List ℕ → Bool
spelt S Q bytes = all (suc S.l) (λ j. all (slot S) (same S Q bytes j))

pub all-below : (p : ℕ) (xs : List ℕ) → T (small p xs) → AllBelow p xs
all-below p xs t i h = ltb→lt _ _ (all-at _ _ t i h)

pub all-different : (xs : List ℕ) → T (distinct xs) → Repeated xs → ⊥
all-different xs t r =
    let row = all-at _ _ t r.second r.inside in
    T_not (eqb (get_or xs r.first 0) (get_or xs r.second 0)) (all-at _ _ row r.first r.apart)
    (rw r.same (eqb_refl (get_or xs r.second 0)))

pub through : (points word hs : List ℕ) → length hs ≡ length points → T (values points word hs)
    → Through (symbols 7).ring (length points) (symbols_of 7 points) (symbols_of 7 word) (symbols_of 7 hs)
through points word hs long t =
    record { short = λ i l. ap (symbol 7) (get_or-eq_default hs 0 (omega arith)); hits = λ s l. same-byte 7 (eqb→eq _ _ (all-at _ _ t s l)) }

pub holds-curve : (S : Shape) (Q : Curve (symbols S.p).ring) (bytes : List ℕ) → T (spelt S Q bytes) → HoldsCurve S bytes Q
holds-curve S Q bytes t j e h k =
    eqb→eq _ _ (all-at (slot S) (same S Q bytes j) (all-at (suc S.l) (λ j. all (slot S) (same S Q bytes j)) t j (omega arith)) e (omega arith))

-- a word at the points 1, 2, 3 is in order
pub at-places : (word : List ℕ) → length word ≡ 3 → T (small 7 word) → Places 7 three word
at-places word long below =
    record {
      size = seven;
      count = omega arith;
      same = long;
      points_below = all-below 7 three tt;
      word_below = all-below 7 word below;
      different = all-different three tt;
    }

pub three-distinct : Distinct (symbols 7).ring 3 (symbols_of 7 three)
three-distinct = places-distinct (at-places three refl tt)

pub at-three : (word lent : List ℕ) {m : ℕ} → length word ≡ 3 → T (small 7 word) → 1 ≤ m → m ≤ 4
    → rows_bytes (shape_for (at_three word m)) ≤ length lent
    → Accepted 7 three word 2 m m lent
at-three word lent long below some most room =
    record {
      places = at-places word long below;
      some = omega arith;
      low = omega arith;
      degree = omega arith;
      heights = record { some = some; most = most; order = omega arith; high = omega arith };
      room = room;
    }
