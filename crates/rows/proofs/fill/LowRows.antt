-- A row up to m as it is filled: 1, times e^(m-i), then times y - h again and again.
use mathlib.Core.Path.{◌≡◌, sym, ap, ◌∙◌}
use mathlib.Core.Logic.{inr, ⊎_elim}
use mathlib.Core.List.{List}
use Prim.Native.Nat.{ℕ, zero, suc, ◌+◌, ◌-◌, ◌*◌, ◌≤◌, ◌<◌}
use native.Mathlib.Nat.{add-zero, mul-le-mul_right}
use native.Mathlib.Numerals.{add-one}
use native.Mathlib.Decide.{dec_lt}
use native.Mathlib.Omega.{arith}
use lib.ListN.{length, get_or, set, length-set}
use lib.Seq.{get_or-set_same, get_or-set_other}
use Rattle.field.specs.Field.{Ring, RingLaws, pow}
use Rattle.field.specs.Symbols.{Element, symbols, symbols_of}
use Rattle.field.proofs.RingLaws.{mul-one}
use Rattle.field.proofs.SymbolLaws.{symbols-field, symbol-byte, byte-below, zero-byte}
use Rattle.poly.specs.Polynomials.{Seq, Series, one_s, mul_s, lin}
use Rattle.poly.specs.Buffers.{from, Factors, Kept}
use Rattle.poly.proofs.Series.{series}
use Rattle.poly.proofs.Constants.{const_s-zero}
use Rattle.poly.proofs.Products.{product-low}
use Rattle.poly.proofs.BufferLaws.{kept-none, kept-then, kept-longer}
use Rattle.curves.proofs.RaisedRows.{low_row, low_row-zero, low_row-suc, low_row-height, raised-low, raised-height, start_row-low}
use Rattle.rows.specs.Bytes.{slot, curve_bytes, place}
use Rattle.rows.specs.Filling.{Power, slots_at, Raised, HoldsRow, FillsLow, FilledLow}
use Rattle.rows.specs.declared.Shape.{Shape}
use Rattle.rows.proofs.Placing.{curve-small, slot-end, row-end, block-end, slot-inside, InCurve, in-curve}

pub slot-fits : (S : Shape) → slot S ≤ curve_bytes S
slot-fits S = let w = slot-end S {j = zero} (omega arith) in omega arith

-- row i is (y - h)^q e^n
pub record LowFilled (S : Shape) (i n q : ℕ) (h e before after : List ℕ) : Type 0 where
  pub kept : Kept (i * curve_bytes S) (curve_bytes S) before after
  pub is : HoldsRow S i (low_row (symbols S.p).ring (symbols_of S.p e) (symbols_of S.p h) n q) after

module _ {S : Shape} {i m : ℕ} {h e xs : List ℕ} (a : FillsLow S i m h e xs) where
  abbrev p : ℕ
  p = S.p

  abbrev R : Ring
  R = (symbols p).ring

  L : RingLaws R
  L = (symbols-field p a.fine.size).ring

  abbrev base : ℕ
  base = i * curve_bytes S

  abbrev row : ℕ → ℕ → ℕ → Seq R
  row n q = low_row R (symbols_of p e) (symbols_of p h) n q

  pub row-inside : base + curve_bytes S ≤ length xs
  row-inside = let w = row-end S a.inside in let r = a.room in omega arith

  -- 1 in slot 0

  abbrev one : List ℕ
  one = set xs base 1

  one-kept : Kept base (curve_bytes S) xs one
  one-kept =
      record {
        long = length-set xs base 1;
        same = λ q o. get_or-set_other xs base q 1 0 (λ z. let w = slot-fits S in ⊎_elim (λ k. omega arith) (λ k. omega arith) o);
      }

  one-first : get_or one base 0 ≡ 1
  one-first = get_or-set_same xs base 1 0 (let w = slot-fits S in omega (arith, row-inside))

  one-other : (q : ℕ) → 0 < q → q < curve_bytes S → get_or one (base + q) 0 ≡ 0
  one-other q k g = get_or-set_other xs base (base + q) 1 0 (λ z. omega arith) ∙ a.bare q g

  one-is : (q : ℕ) → q < slot S → from p one base q ≡ one_s R q
  unfolding one_s
  one-is zero k = rw add-zero (rw one-first)
  one-is (suc q) k = let w = slot-fits S in rw (one-other (suc q) (omega arith) (omega arith))

  pub one_factors : Factors p e base (slot S) one
  one_factors =
      let w = slot-fits S in
      let v = length-set xs base 1 in
      record {
        size = a.fine.size;
        factor = a.below_e;
        short = omega (arith, a.fine.wide);
        region = record { within = omega (arith, row-inside); below = below };
      }
    where
      below : (q : ℕ) → q < slot S → get_or one (base + q) 0 < p
      below zero k = rw (add-zero, one-first) (omega (arith, a.fine.size))
      below (suc q) k = let w = slot-fits S in rw (one-other (suc q) (omega arith) (omega arith)) (omega (arith, a.fine.size))

  pub low-one : {n : ℕ} {zs : List ℕ} → Power p e n base (slot S) one zs → LowFilled S i n 0 h e xs zs
  low-one {n} {zs} b =
      record { kept = kept-then one-kept (kept-longer (slot-fits S) b.kept); is = is }
    where
      is : (j d : ℕ) → j ≤ S.l → d ≤ S.width → get_or zs (place S i j d) 0 ≡ (row n 0 j d).byte
      is zero d g k =
          let z : place S i zero d ≡ base + d = omega arith in
          rw (
            z,
            b.power d (omega arith),
            low_row-zero R (symbols_of p e) (symbols_of p h) n,
            const_s-zero (Series R) (pow (Series R) (symbols_of p e) n),
          )
          (ap (λ (x : Element p). x.byte)
          (product-low R (pow (Series R) (symbols_of p e) n) (from p one base) (one_s R) d (λ q o. one-is q (omega arith))
          ∙ ap (λ (f : Seq R). f d) (mul-one (series L) (pow (Series R) (symbols_of p e) n))))
      is (suc j) d g k =
          let v = slot-inside S g k in
          let w = block-end (slot S) {i = zero} {k = suc j} (omega arith) in
          let z : place S i (suc j) d ≡ base + (suc j * slot S + d) = omega arith in
          b.kept.same (place S i (suc j) d) (inr (omega arith))
          ∙ rw (
            z,
            one-other (suc j * slot S + d) (omega arith) v,
            low_row-height L (symbols_of p e) (symbols_of p h) n 0 (suc j) d
                (omega arith),
          )
          (sym (zero-byte p))

  -- as the loop begins
  pub low-begins : {n : ℕ} {ys : List ℕ} → LowFilled S i n 0 h e xs ys → LowFilled S i n 0 h e ys ys
  low-begins {n} {ys} b = record { kept = kept-none base (curve_bytes S) ys; is = b.is }

  module _ {n q : ℕ} {bs ys : List ℕ} (same : length bs ≡ length xs) (b : LowFilled S i n q h e bs ys) (k : q < i) where
    pub low_factors : Factors p h base ((q + 2) * slot S) ys
    low_factors =
        let w = mul-le-mul_right {m = q + 2} {n = suc S.l} (slot S) (let g = a.inside in omega arith) in
        let v = b.kept.long in
        record {
          size = a.fine.size;
          factor = a.below_h;
          short = omega (arith, curve-small a.fine);
          region = record { within = omega (arith, row-inside); below = λ d o. below d (in-curve S (omega arith)) };
        }
      where
        below : (d : ℕ) → InCurve S d → get_or ys (base + d) 0 < p
        below d c =
            let z : base + d ≡ place S i c.power c.degree = let f = c.is in omega arith in
            rw (z, b.is c.power c.degree c.low c.short) (byte-below a.fine.size (row n q c.power c.degree))

    pub low-more : {zs : List ℕ} → Raised p h base (slot S) (q + 2) ys zs → LowFilled S i n (q + 1) h e bs zs
    low-more {zs} r =
        let w = mul-le-mul_right {m = q + 2} {n = suc S.l} (slot S) (let g = a.inside in omega arith) in
        record {
          kept = kept-then b.kept (kept-longer w r.kept);
          is = λ j d g f. rw (add-one q, low_row-suc R (symbols_of p e) (symbols_of p h) n q) (is j d g f (dec_lt j (q + 2)));
        }
      where
        is : (j d : ℕ) → j ≤ S.l → d ≤ S.width → Dec (j < q + 2)
            → get_or zs (place S i j d) 0 ≡ (mul_s (Series R) (lin (Series R) (symbols_of p h)) (row n q) j d).byte
        is j d g f (yes o) =
            r.is j d o (omega arith)
            ∙ ap (λ (x : Element p). x.byte)
            (raised-low L (symbols_of p h) (slots_at p base (slot S) ys) (row n q) j d
            (λ t v u z. rw (b.is t v (omega arith) (omega arith)) (symbol-byte p (row n q t v))))
        is j d g f (no o) =
            let w = mul-le-mul_right {m = q + 2} {n = j} (slot S) (omega arith) in
            r.kept.same (place S i j d) (inr (omega arith))
            ∙ b.is j d g f
            ∙ ap (λ (x : Element p). x.byte)
            (low_row-height L (symbols_of p e) (symbols_of p h) n q j d (omega arith)
            ∙ sym (raised-height L (symbols_of p h) (row n q) (suc q) (low_row-height L (symbols_of p e) (symbols_of p h) n q) j d
            (omega arith)))

  pub low-all : {bs ys : List ℕ} → LowFilled S i (m - i) 0 h e xs bs → LowFilled S i (m - i) i h e bs ys → FilledLow S i m h e xs ys
  low-all f b = record { kept = kept-then f.kept b.kept; is = rw (start_row-low L (symbols_of p e) (symbols_of p h) m i a.low) b.is }
