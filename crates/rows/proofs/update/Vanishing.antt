-- The test whether an update would make row r zero, slot by slot.
use mathlib.Core.Path.{◌≡◌, sym, ◌∙◌}
use mathlib.Core.Bool.{Bool, true, false}
use mathlib.Core.Logic.{inl, inr}
use mathlib.Core.List.{List}
use Prim.Native.Nat.{ℕ, ◌+◌, ◌-◌, ◌*◌, ◌≤◌, ◌<◌}
use native.Mathlib.Decide.{dec_le}
use native.Mathlib.Omega.{arith}
use lib.Dec.{leb}
use lib.ListN.{get_or}
use borrow.Author.Tests.{le-leb, lt-leb}
use Rattle.field.specs.Field.{Ring, Field, FieldLaws}
use Rattle.field.specs.Symbols.{Element, symbol, same-byte, select, symbols}
use Rattle.field.specs.Operations.{minus_bytes, times_bytes, Listed}
use Rattle.field.specs.Kernels.{Region}
use Rattle.field.proofs.OperationLaws.{symbol-times_bytes}
use Rattle.field.proofs.SymbolLaws.{symbols-field, symbol-byte, zero-byte}
use Rattle.poly.proofs.Monomials.{delay, delay-at, delay-null}
use Rattle.curves.specs.Curves.{Curve, Zero}
use Rattle.curves.specs.Turns.{cross}
use Rattle.curves.proofs.Crossing.{cross-at, cross-null}
use Rattle.rows.specs.Bytes.{slot, curve_bytes, rows_of}
use Rattle.rows.specs.Work.{Bytes, Crosses, leads_ratio, updated_rows, delayed_byte, SlotVanishes}
use Rattle.rows.specs.declared.Shape.{Shape}
use Rattle.rows.proofs.Placing.{slot-end, row-end, rows_of-at, rows_of_boxed}
use Rattle.rows.proofs.update.CrossedRows.{crossed_r, crossed-under, crosses-w, crosses-v}

-- a slot's bytes are below p
pub slot-region : {S : Shape} {xs : List ℕ} {i j : ℕ} → Bytes S xs → i ≤ S.l → j ≤ S.l
    → Region S.p (i * curve_bytes S + j * slot S) (slot S) xs
slot-region {S} b g h =
    let a = row-end S g in
    let d = slot-end S h in
    let r = b.room in
    record { within = omega arith; below = λ e k. b.below _ (omega arith) }

pub delayed-below : {p at len : ℕ} {xs : List ℕ} → Listed p → Region p at len xs → (d e : ℕ) → e < len → delayed_byte xs at d e < p
delayed-below {p} {at} {len} {xs} l region d e h = go (leb d e)
  where
    go : (b : Bool) → select b (get_or xs (at + (e - d)) 0) 0 < p
    go true = region.below (e - d) (omega arith)
    go false = omega (arith, l.large)

module _ {S : Shape} {xs : List ℕ} {r w s v : ℕ} (x : Crosses S xs r w s v) where
  abbrev F : Field
  F = symbols S.p

  abbrev R : Ring
  R = F.ring

  abbrev rows : ℕ → Curve R
  rows = rows_of S xs

  abbrev c : Element S.p
  c = leads_ratio S xs r w s v

  Φ : FieldLaws (symbols S.p)
  Φ = symbols-field S.p x.bytes.fine.size

  -- the new row r, coefficient by coefficient
  delayed-symbol : (d : ℕ) {i j e : ℕ} → i ≤ S.l → j ≤ S.l → e ≤ S.width
      → symbol S.p (delayed_byte xs (i * curve_bytes S + j * slot S) d e) ≡ delay R d (rows i j) e
  delayed-symbol d {i} {j} {e} g h k = go (dec_le d e)
    where
      go : Dec (d ≤ e) → symbol S.p (delayed_byte xs (i * curve_bytes S + j * slot S) d e) ≡ delay R d (rows i j) e
      go (yes l) =
          let q : d + (e - d) ≡ e = omega arith in
          let n : e - d ≤ S.width = omega arith in
          rw (le-leb d e l) (sym (rows_of-at S xs g h n) ∙ sym (rw q at (delay-at R d (e - d) (rows i j))))
      go (no l) = rw (lt-leb d e (omega arith)) (sym (delay-null R d e (rows i j) (λ y z. absurd (omega arith))))

  cross-byte : {j e : ℕ} → j ≤ S.l → e ≤ S.width
      → minus_bytes S.p (delayed_byte xs (r * curve_bytes S + j * slot S) (v - w) e)
      (times_bytes S.p c.byte (delayed_byte xs (s * curve_bytes S + j * slot S) (w - v) e))
      ≡ (cross R (v - w) (rows r) c (w - v) (rows s) j e).byte
  unfolding minus_bytes
  cross-byte {j} {e} h k =
      rw (
        minus_bytes,
        symbol-times_bytes,
        symbol-byte S.p c,
        delayed-symbol (v - w) x.current h k,
        delayed-symbol (w - v) x.other h k,
        cross-at Φ.ring (v - w) (rows r) c (w - v) (rows s) j e,
      )

  -- the test whether the new row r is zero
  abbrev pub crossed : Curve R
  crossed = cross R (v - w) (rows r) c (w - v) (rows s)

  abbrev pub Vanishing : ℕ → Type 0
  Vanishing j = SlotVanishes S c.byte (r * curve_bytes S + j * slot S) (v - w) (s * curve_bytes S + j * slot S) (w - v) xs

  pub slot-zero : {j : ℕ} → j ≤ S.l → Vanishing j → (e : ℕ) → e ≤ S.width → crossed j e ≡ symbol S.p 0
  slot-zero {j} h z e k = same-byte S.p (sym (cross-byte h k) ∙ z e k ∙ sym (zero-byte S.p))

  pub zero-slot : {j : ℕ} → j ≤ S.l → Zero R (updated_rows S xs r w s v r) → Vanishing j
  zero-slot {j} h z e k = cross-byte h k ∙ rw (← crossed_r x, z j e) (zero-byte S.p)

  pub row-zero : ((j : ℕ) → j ≤ S.l → (e : ℕ) → e ≤ S.width → crossed j e ≡ symbol S.p 0) → Zero R (updated_rows S xs r w s v r)
  row-zero z j e = go (dec_le j S.l) (dec_le e S.width)
    where
      go : Dec (j ≤ S.l) → Dec (e ≤ S.width) → updated_rows S xs r w s v r j e ≡ symbol S.p 0
      go (yes h) (yes k) = rw (crossed_r x) (z j h e k)
      go (no h) k =
          rw (crossed_r x) (cross-null Φ.ring (v - w) (rows r) c (w - v) (rows s) j e
          (λ i y. rows_of_boxed S xs r j i (inr (inl (omega arith)))) (λ i y. rows_of_boxed S xs s j i (inr (inl (omega arith)))))
      go (yes h) (no k) = let a = crosses-w x in let b = crosses-v x in crossed-under x j e (omega arith) (λ y. absurd (omega arith))
