-- What finish hands over: a row brought to the curve's bytes, those bytes times the inverse of the leading coefficient, and the row's height.
use mathlib.Core.Path.{◌≡◌, refl, sym, ap, ◌∙◌}
use mathlib.Core.Logic.{inl, inr}
use mathlib.Core.List.{List, ◌++◌}
use Prim.Native.Nat.{ℕ, suc, ◌+◌, ◌-◌, ◌*◌, ◌/◌, ◌%◌, ◌≤◌, ◌<◌}
use native.Mathlib.Nat.{zero-add, mod-lt, div-add-mod', div-lt_iff_lt-mul}
use native.Mathlib.Decide.{dec_le}
use native.Mathlib.Omega.{arith}
use lib.ListN.{length, get_or, drop}
use Rattle.std.specs.Prelude.{Option, Some, None, IsSome}
use Rattle.std.specs.List.{between}
use Rattle.std.proofs.lemmas.List.{get_or_append_left, get_or-append_right, get_or-drop, length-append, length-drop}
use Rattle.std.proofs.lemmas.List.Edits.{length-between, get_or-between}
use Rattle.field.specs.Symbols.{Element, symbol, symbols}
use Rattle.field.specs.Operations.{times_bytes, inv_byte}
use Rattle.field.specs.Kernels.{Region, scaled}
use Rattle.field.proofs.SymbolLaws.{symbols-field}
use Rattle.field.proofs.OperationLaws.{symbol-inv_byte}
use Rattle.field.proofs.KernelLaws.{length-scaled, scaled-inside, scaled-outside}
use Rattle.poly.specs.Lent.{Untouched}
use Rattle.curves.specs.Finish.{monic}
use Rattle.curves.specs.Curves.{HasHeight}
use Rattle.curves.proofs.Least.{monic-at}
use Rattle.rows.specs.Bytes.{slot, curve_bytes, rows_of, place, HoldsCurve}
use Rattle.rows.specs.Work.{DegreeTo, IsDegree, Whole, HandsOver}
use Rattle.rows.specs.declared.Shape.{Shape}
use Rattle.rows.proofs.Placing.{block-end, row-end, slot-inside, rows_of-at, rows_of_boxed, place-below, rows_of-zero}
use Rattle.rows.proofs.Placing.{rows_of-null}

-- a row's bytes times the inverse of its leading coefficient
module _ {S : Shape} {xs : List ℕ} {row weight : ℕ} {curve : List ℕ} (h : HandsOver S xs row weight curve) where
  abbrev lead : ℕ
  lead = get_or xs (place S row row (weight - S.u * row)) 0

  abbrev bytes : List ℕ
  bytes = between (row * curve_bytes S) (row * curve_bytes S + curve_bytes S) xs

  abbrev copy : List ℕ
  copy = bytes ++ drop (curve_bytes S) curve

  bytes-length : length bytes ≡ curve_bytes S
  bytes-length =
      let r = h.bytes.room in
      length-between xs (row * curve_bytes S) (row * curve_bytes S + curve_bytes S) (omega (arith, row-end S h.inside)) ∙ omega arith

  lead-short : weight - S.u * row ≤ S.width
  lead-short = omega (arith, h.light)

  pub lead-below : {at : ℕ} → at ≡ place S row row (weight - S.u * row) → get_or xs at 0 < S.p
  lead-below e = rw e (place-below h.bytes h.inside h.inside lead-short)

  copy-at : {q : ℕ} → q < curve_bytes S → get_or copy q 0 ≡ get_or xs (row * curve_bytes S + q) 0
  copy-at {q} k =
      get_or_append_left bytes (drop (curve_bytes S) curve) 0 q (omega (arith, bytes-length))
      ∙ get_or-between xs (row * curve_bytes S) (row * curve_bytes S + curve_bytes S) q 0 (omega arith)

  copy-past : (q : ℕ) → curve_bytes S ≤ q → get_or copy q 0 ≡ get_or curve q 0
  copy-past q k =
      let e : curve_bytes S + (q - curve_bytes S) ≡ q = omega arith in
      get_or-append_right bytes (drop (curve_bytes S) curve) (curve_bytes S) q 0 bytes-length k
      ∙ get_or-drop (curve_bytes S) curve (q - curve_bytes S) 0
      ∙ ap (λ (t : ℕ). get_or curve t 0) e

  copy-length : length copy ≡ length curve
  copy-length =
      let r = h.room in
      length-append bytes (drop (curve_bytes S) curve) ∙ omega (arith, bytes-length, length-drop (curve_bytes S) curve)

  copy-region : Region S.p 0 (curve_bytes S) copy
  copy-region =
      let r = h.room in
      record {
        within = omega (arith, copy-length);
        below = λ i k. rw (zero-add i, copy-at k) (h.bytes.below (row * curve_bytes S + i) (omega (arith, row-end S h.inside)));
      }

  abbrev monic_bytes : List ℕ
  monic_bytes = scaled S.p (inv_byte S.p lead) 0 (curve_bytes S) copy

  monic-bytes : HoldsCurve S monic_bytes (monic (symbols S.p) row (weight - S.u * row) (rows_of S xs row))
  unfolding times_bytes
  monic-bytes j e g k =
      let q = slot-inside S g k in
      let a : row * curve_bytes S + (j * slot S + e) ≡ place S row j e = omega arith in
      rw (zero-add (j * slot S + e)) at
      (scaled-inside S.p (inv_byte S.p lead) 0 copy (curve_bytes S) (j * slot S + e) (omega (arith, copy-length, h.room)) q)
      ∙ rw (copy-at q, a, times_bytes, symbol-inv_byte, ← rows_of-at S xs h.inside h.inside lead-short, ← rows_of-at S xs h.inside g k)
      (ap (λ (x : Element S.p). x.byte)
      (sym (monic-at (symbols-field S.p h.bytes.fine.size) row (weight - S.u * row) (rows_of S xs row) j e)))

  monic-rest : Untouched (curve_bytes S) curve monic_bytes
  monic-rest =
      record {
        long = length-scaled S.p (inv_byte S.p lead) 0 copy (curve_bytes S) ∙ copy-length;
        same = λ q k. scaled-outside S.p (inv_byte S.p lead) 0 copy (curve_bytes S) q (inr (omega arith))
            ∙ copy-past q k;
      }

  -- the same, said as the code goes
  module _ {len : ℕ} {ys : List ℕ} (le : len ≡ curve_bytes S) (ye : ys ≡ between (row * len) (row * len + len) xs ++ drop len curve) where
    pub hand-region : Region S.p 0 len ys
    hand-region = rw (ye, le) copy-region

    pub handed : {at c : ℕ} {zs : List ℕ} → at ≡ place S row row (weight - S.u * row) → c ≡ inv_byte S.p (get_or xs at 0)
        → zs ≡ scaled S.p c 0 len ys
        → HoldsCurve S zs (monic (symbols S.p) row (weight - S.u * row) (rows_of S xs row)) × Untouched (curve_bytes S) curve zs
    handed ae ce ze = rw (ze, ce, ae, ye, le) (monic-bytes, monic-rest)

-- the slot of a row's last nonzero byte
module _ {S : Shape} {xs : List ℕ} {row : ℕ} (w : Whole S xs) (h : row ≤ S.l) where
  row-zero : (t e : ℕ) → (t * slot S + e ≤ curve_bytes S - 1 → get_or xs (row * curve_bytes S + (t * slot S + e)) 0 ≡ 0)
      → rows_of S xs row t e ≡ symbol S.p 0
  row-zero t e zeros =
      rows_of-null S xs h t e
      (λ g k.
      let a : place S row t e ≡ row * curve_bytes S + (t * slot S + e) = omega arith in
      rw a (zeros (omega (arith, slot-inside S g k))))

  pub row-some : (found : Option ℕ) → DegreeTo xs (row * curve_bytes S) (curve_bytes S - 1) found → IsSome found
  row-some None zeros = absurd (w.sound.nonzero row h (λ t e. row-zero t e (zeros (t * slot S + e))))
  row-some (Some d) z = refl

  pub row-height : {d : ℕ} → IsDegree xs (row * curve_bytes S) (curve_bytes S - 1) d → HasHeight (symbols S.p).ring (rows_of S xs row) (d / slot S)
  row-height {d} z =
      let b = z.within in
      let j = d / slot S in
      let e = d % slot S in
      let some : 0 < slot S = omega arith in
      let end : d < suc S.l * slot S = omega (arith, slot-inside S {j = 0} {e = 0} (omega arith) (omega arith)) in
      let low = (div-lt_iff_lt-mul some).1 end in
      let short = mod-lt d some in
      let is = div-add-mod' d (slot S) in
      let it : place S row j e ≡ row * curve_bytes S + d = omega arith in
      record {
        above = λ t i k. row-zero t i (z.above (t * slot S + i) (omega (arith, block-end (slot S) k)));
        some = (e, λ n. z.nonzero (rw it at (rows_of-zero w.bytes h (omega arith) (omega arith) n)));
      }

pub height-inside : (S : Shape) (xs : List ℕ) (row : ℕ) {j : ℕ} → HasHeight (symbols S.p).ring (rows_of S xs row) j → j ≤ S.l
height-inside S xs row {j} t = go (dec_le j S.l)
  where
    go : Dec (j ≤ S.l) → j ≤ S.l
    go (yes l) = l
    go (no l) = absurd (t.some.1 (rows_of_boxed S xs row j t.some.0 (inr (inl (omega arith)))))
