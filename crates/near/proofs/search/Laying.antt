-- The search's curve in bytes: the byte of each coefficient, and of each coefficient of a slice.
use mathlib.Core.Path.{◌≡◌, ap, ◌∙◌}
use mathlib.Core.Logic.{inr, inl}
use mathlib.Core.List.{List}
use Prim.Native.Nat.{ℕ, suc, ◌+◌, ◌-◌, ◌*◌, ◌≤◌, ◌<◌}
use native.Mathlib.Nat.{mul-le-mul}
use native.Mathlib.Omega.{arith}
use lib.ListN.{length, get_or}
use Rattle.field.specs.Field.{RingLaws}
use Rattle.field.specs.Symbols.{symbol, symbols}
use Rattle.field.proofs.SymbolLaws.{symbol-own, byte-below, symbols-field, zero-byte}
use Rattle.poly.specs.Limits.{field_most, height_most}
use Rattle.curves.specs.Curves.{Curve, Height, Under}
use Rattle.rows.specs.Bytes.{slot, place, curve_bytes, HoldsCurve}
use Rattle.rows.specs.Work.{Fine}
use Rattle.rows.specs.declared.Shape.{Shape}
use Rattle.rows.proofs.Placing.{rows_of-at, rows_of_boxed, slot-inside, in-curve}
use Rattle.rows.proofs.HeldRows.{holds-row}
use Rattle.near.specs.Work.{curve_of, slice_of, Laid}
use Rattle.near.proofs.search.Steps.{slice-at, slice_beyond}

-- where the curve's coefficients stand
pub place-is : (S : Shape) (j e : ℕ) → place S 0 j e ≡ j * slot S + e
place-is S j e = omega arith

pub place-slot : (S : Shape) (j : ℕ) → place S 0 j 0 ≡ j * slot S
place-slot S j = omega arith

-- a coefficient and its byte
module _ (S : Shape) (xs : List ℕ) where
  pub curve-at : {j e : ℕ} → j ≤ S.l → e ≤ S.width → curve_of S xs j e ≡ symbol S.p (get_or xs (j * slot S + e) 0)
  curve-at {j} {e} h k = rows_of-at S xs {i = 0} (omega arith) h k ∙ ap (λ (q : ℕ). symbol S.p (get_or xs q 0)) (omega arith)

  pub curve-high : {j : ℕ} (e : ℕ) → S.l < j → curve_of S xs j e ≡ symbol S.p 0
  curve-high {j} e h = rows_of_boxed S xs 0 j e (inr (inl h))

  pub curve-wide : (j : ℕ) {e : ℕ} → S.width < e → curve_of S xs j e ≡ symbol S.p 0
  curve-wide j {e} h = rows_of_boxed S xs 0 j e (inr (inr h))

module _ {S : Shape} {xs : List ℕ} (laid : Laid S xs) where
  pub laws : RingLaws (symbols S.p).ring
  laws = (symbols-field S.p laid.fine.size).ring

  pub curve-byte : {j e : ℕ} → j ≤ S.l → e ≤ S.width → (curve_of S xs j e).byte ≡ get_or xs (j * slot S + e) 0
  curve-byte {j} {e} h k =
      rw (curve-at S xs h k) (symbol-own S.p (laid.below (j * slot S + e) (slot-inside S h k)))

  -- the coefficients of a slice
  module _ (i v j : ℕ) where
    pub slice-low : v < i * j → (slice_of S xs i v j).byte ≡ 0
    slice-low h = rw (slice_beyond laws i v (curve_of S xs) j h) (zero-byte S.p)

    pub slice-wide : i * j ≤ v → S.width < v - i * j → (slice_of S xs i v j).byte ≡ 0
    slice-wide h k = rw (slice-at laws i v (curve_of S xs) j h, curve-wide S xs j k) (zero-byte S.p)

    pub slice-byte : i * j ≤ v → j ≤ S.l → v - i * j ≤ S.width
        → (slice_of S xs i v j).byte ≡ get_or xs (j * slot S + (v - i * j)) 0
    slice-byte h g k = rw (slice-at laws i v (curve_of S xs) j h) (curve-byte g k)

  -- the power of x that x^i y for y brings to slot j can be counted
  pub lift-small : {i j : ℕ} → i ≤ S.u → j ≤ S.l → i * j ≤ field_most * height_most
  lift-small {i} {j} h k = let a = laid.fine.lift in let b = laid.fine.high in
      mul-le-mul {n₁ = i} {m₁ = j} {n₂ = field_most} {m₂ = height_most} (omega arith) (omega arith)

-- bytes that hold a curve within these bounds are that curve
module _ (S : Shape) (xs : List ℕ) (Q : Curve (symbols S.p).ring) (holds : HoldsCurve S xs Q)
    (tall : Height (symbols S.p).ring (suc S.l) Q) (light : Under (symbols S.p).ring S.u (suc S.width) 0 Q) where
  pub holds-curve : curve_of S xs ≡ Q
  holds-curve =
      holds-row S xs {i = 0} (omega arith) Q (λ j e h k. ap (λ (q : ℕ). get_or xs q 0) (omega arith) ∙ holds j e h k) tall light

  pub holds-laid : Fine S → curve_bytes S ≤ length xs → Laid S xs
  holds-laid fine room =
      record {
        fine = fine;
        room = room;
        below = λ q h. let r = in-curve S h in
            rw (r.is, holds r.power r.degree r.low r.short) (byte-below fine.size (Q r.power r.degree));
        light = rw holds-curve light;
      }
