-- What the entry test asks of bytes and of rows, one slot and one row at a time; and rows that it does not refuse meet it.
use mathlib.Core.Path.{◌≡◌}
use mathlib.Core.List.{List}
use Prim.Native.Nat.{ℕ, suc, ◌+◌, ◌-◌, ◌*◌, ◌≤◌, ◌<◌, min, max}
use native.Mathlib.Nat.{mul-le-mul_right}
use native.Mathlib.Decide.{dec_le}
use native.Mathlib.Omega.{arith}
use lib.ListN.{length, get_or, take}
use lib.Seq.{get_or-take, length-take-le}
use Rattle.field.specs.Field.{Ring}
use Rattle.field.specs.Symbols.{symbol, symbols}
use Rattle.poly.specs.Table.{TooLarge}
use Rattle.poly.proofs.TableLaws.{below-passed}
use Rattle.curves.specs.Curves.{Curve, Height, Lead}
use Rattle.curves.specs.Entry.{Sound}
use Rattle.curves.proofs.Entry.{sound_stable}
use Rattle.curves.proofs.Leads.{lead-nonzero}
use Rattle.rows.specs.Bytes.{slot, curve_bytes, rows_bytes, place, rows_of}
use Rattle.rows.specs.Jobs.{AsLeft}
use Rattle.rows.specs.Work.{Fine, Bytes, LightRow, ZeroBetween, SoundRow}
use Rattle.rows.specs.declared.Shape.{Shape}
use Rattle.rows.proofs.Placing.{block-end, slot-inside, in-curve, lift-inside, rows_of-zero, rows_of-null, light-curve}

-- bytes of which none is too large
pub bytes-below : {S : Shape} {xs : List ℕ} → Fine S → rows_bytes S ≤ length xs → (TooLarge S.p (take (rows_bytes S) xs) → ⊥) → Bytes S xs
bytes-below {S} {xs} fine room below =
    record {
      fine = fine;
      room = room;
      below = λ q h.
          let e = length-take-le (rows_bytes S) xs room in
          rw (get_or-take (rows_bytes S) xs q 0 h) at (below-passed below q (rw e h));
    }

module _ {S : Shape} (fine : Fine S) (xs : List ℕ) (i : ℕ) {j : ℕ} (h : j ≤ S.l) where
  abbrev end : ℕ
  end = i * curve_bytes S + j * slot S + slot S

  -- the terms of a slot that would weigh more than the width are its last u j bytes
  pub light-slot : ((e : ℕ) → e ≤ S.width → S.width < e + S.u * j → get_or xs (place S i j e) 0 ≡ 0) → ZeroBetween xs (end - S.u * j) end
  light-slot z q a b =
      let low = lift-inside fine h in
      let e : ℕ = q - (i * curve_bytes S + j * slot S) in
      let p : q ≡ place S i j e = omega arith in
      rw p (z e (omega arith) (omega arith))

-- no power of y from t on, said of the bytes from slot t on
module _ {S : Shape} {xs : List ℕ} (b : Bytes S xs) {i : ℕ} (g : i ≤ S.l) (t : ℕ) where
  height-zero : ((j e : ℕ) → t ≤ j → j ≤ S.l → rows_of S xs i j e ≡ symbol S.p 0)
      → ZeroBetween xs (i * curve_bytes S + t * slot S) (i * curve_bytes S + curve_bytes S)
  height-zero tall q a k =
      let c = in-curve S {q = q - i * curve_bytes S} (omega arith) in
      let e = c.is in
      let p : q ≡ place S i c.power c.degree = omega arith in
      rw p (rows_of-zero b g c.low c.short
      (tall c.power c.degree (above c.power c.degree c.short (omega arith) (dec_le t c.power)) c.low))
    where
      above : (j e : ℕ) → e ≤ S.width → t * slot S ≤ j * slot S + e → Dec (t ≤ j) → t ≤ j
      above j e h m (yes k) = k
      above j e h m (no k) = let z = block-end (slot S) {i = j} {k = t} (omega arith) in absurd (omega arith)

  pub zero-height : ZeroBetween xs (i * curve_bytes S + t * slot S) (i * curve_bytes S + curve_bytes S)
      → Height (symbols S.p).ring t (rows_of S xs i)
  zero-height z j e h =
      rows_of-null S xs g j e
      (λ k m.
      let a = mul-le-mul_right (slot S) h in
      let d = slot-inside S k m in
      z (place S i j e) (omega arith) (omega arith))

-- row i may have powers of y up to the greater of i and r, of those up to l
module _ {S : Shape} {xs : List ℕ} (b : Bytes S xs) {i : ℕ} (g : i ≤ S.l) (r : ℕ) where
  abbrev pub Low : Type 0
  Low = ZeroBetween xs (i * curve_bytes S + (min (max i r) S.l + 1) * slot S) (i * curve_bytes S + curve_bytes S)

  pub sound-low : SoundRow (symbols S.p).ring S.u S.width r i (rows_of S xs i) → Low
  sound-low x = height-zero b g (min (max i r) S.l + 1) (λ j e h k. x.height j e (omega arith))

  -- a row that passed each test
  pub passed-row : LightRow S xs i → Low → {w power : ℕ} → Lead (symbols S.p).ring S.u w power (rows_of S xs i) → (i < r → power ≡ i)
      → SoundRow (symbols S.p).ring S.u S.width r i (rows_of S xs i)
  passed-row light low {w} lead own =
      record {
        light = light-curve S xs g light;
        nonzero = lead-nonzero lead;
        height = λ j e h. zero-height b g (min (max i r) S.l + 1) low j e (omega arith);
        own = λ h. (w, rw (own h) at lead);
      }

module _ {R : Ring} {u W l r : ℕ} {rows : ℕ → Curve R} where
  pub sound-row : Sound R u W l r rows → (i : ℕ) → i ≤ l → SoundRow R u W r i (rows i)
  sound-row s i h = record { light = s.light i h; nonzero = s.nonzero i h; height = height (dec_le i r); own = s.own i h }
    where
      height : Dec (i ≤ r) → Height R (suc (max i r)) (rows i)
      height (yes k) j e m = s.low i h k j e (omega arith)
      height (no k) j e m = s.high i h (omega arith) j e (omega arith)

  pub row-sound : ((i : ℕ) → i ≤ l → SoundRow R u W r i (rows i)) → Sound R u W l r rows
  row-sound s =
      record {
        light = λ i h. (s i h).light;
        nonzero = λ i h. (s i h).nonzero;
        low = λ i h k j e m. (s i h).height j e (omega arith);
        high = λ i h k j e m. (s i h).height j e (omega arith);
        own = λ i h. (s i h).own;
      }

-- rows that are not refused are as a turn leaves them
pub as-left_stable : {S : Shape} {r : ℕ} {xs : List ℕ} → ((AsLeft S r xs → ⊥) → ⊥) → AsLeft S r xs
as-left_stable {S} kept =
    record {
      below = λ t. kept (λ a. a.below t);
      sound = sound_stable (symbols S.p) (λ n. kept (λ a. n a.sound));
    }
