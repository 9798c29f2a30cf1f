-- Bytes that hold rows: the rows that they are, are the rows held, if these are flat and no term weighs more than the width.
use mathlib.Core.Path.{◌≡◌, sym, ◌∙◌, fun_ext}
use mathlib.Core.Logic.{inl, inr}
use mathlib.Core.List.{List}
use Prim.Native.Nat.{ℕ, zero, suc, ◌≤◌, zero-le}
use native.Mathlib.Omega.{arith}
use lib.ListN.{get_or}
use native.Mathlib.Decide.{dec_le}
use Rattle.field.specs.Symbols.{symbols}
use Rattle.field.proofs.SymbolLaws.{symbol-byte}
use Rattle.curves.specs.Curves.{Curve, Height, Under}
use Rattle.curves.proofs.FlatRows.{Flat}
use Rattle.rows.specs.Bytes.{rows_of, Holds, place}
use Rattle.rows.specs.declared.Shape.{Shape}
use Rattle.rows.proofs.Placing.{rows_of-at, rows_of_boxed}

module _ (S : Shape) where
  pub rows_of-flat : (xs : List ℕ) → Flat (symbols S.p).ring S.l (rows_of S xs)
  rows_of-flat xs = record { height = λ i j e h. rows_of_boxed S xs i j e (inr (inl h)); past = λ i h j e. rows_of_boxed S xs i j e (inl h) }

  -- the bytes that hold a row are that row
  module _ (xs : List ℕ) {i : ℕ} (g : i ≤ S.l) (Q : Curve (symbols S.p).ring) where
    pub holds-row : ((j e : ℕ) → j ≤ S.l → e ≤ S.width → get_or xs (place S i j e) 0 ≡ (Q j e).byte) → Height (symbols S.p).ring (suc S.l) Q
        → Under (symbols S.p).ring S.u (suc S.width) zero Q → rows_of S xs i ≡ Q
    holds-row holds height light = fun_ext (λ j. fun_ext (λ e. go j e (dec_le j S.l) (dec_le e S.width)))
      where
        go : (j e : ℕ) → Dec (j ≤ S.l) → Dec (e ≤ S.width) → rows_of S xs i j e ≡ Q j e
        go j e (yes h) (yes k) = rw (rows_of-at S xs g h k, holds j e h k) (symbol-byte S.p (Q j e))
        go j e (no h) k = rows_of_boxed S xs i j e (inr (inl (omega arith))) ∙ sym (height j e (omega arith))
        go j e (yes h) (no k) = rows_of_boxed S xs i j e (inr (inr (omega arith))) ∙ sym (light j e (omega arith) (λ _. zero-le))

  module _ (xs : List ℕ) (rows : ℕ → Curve (symbols S.p).ring) (holds : Holds S xs rows) where
    pub holds-flat : Flat (symbols S.p).ring S.l rows
        → ((i : ℕ) → i ≤ S.l → Under (symbols S.p).ring S.u (suc S.width) zero (rows i)) → rows_of S xs ≡ rows
    holds-flat flat light = fun_ext (λ i. go i (dec_le i S.l))
      where
        go : (i : ℕ) → Dec (i ≤ S.l) → rows_of S xs i ≡ rows i
        go i (yes h) = holds-row xs h (rows i) (λ j e. holds i j e h) (flat.height i) (light i h)
        go i (no h) = fun_ext (λ j. fun_ext (λ e. rows_of_boxed S xs i j e (inl (omega arith)) ∙ sym (flat.past i (omega arith) j e)))
