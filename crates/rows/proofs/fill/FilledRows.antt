-- The rows one after the other as they are filled, those above m as y times the row before.
use mathlib.Core.Path.{◌≡◌, sym, ap, ◌∙◌}
use mathlib.Core.Logic.{inl, inr, ⊎_elim}
use mathlib.Core.List.{List}
use Prim.Native.Nat.{ℕ, zero, suc, ◌+◌, ◌-◌, ◌*◌, ◌≤◌, ◌<◌}
use native.Mathlib.Nat.{suc-mul}
use native.Mathlib.Numerals.{add-one}
use native.Mathlib.Decide.{ℕ_discrete}
use native.Mathlib.Omega.{arith}
use lib.ListN.{length, get_or, take, drop}
use Rattle.std.specs.List.{CopiedTo, SameBelow, SameFrom}
use Rattle.field.specs.Symbols.{symbols, symbols_of}
use Rattle.field.specs.Operations.{Listed}
use Rattle.field.proofs.SymbolLaws.{symbols-field, zero-byte}
use Rattle.poly.specs.Polynomials.{Series, zero_s, cons_s}
use Rattle.poly.specs.Buffers.{AllBelow, Kept}
use Rattle.poly.specs.Lent.{Untouched}
use Rattle.poly.proofs.BufferLaws.{below-take, below-drop}
use Rattle.curves.specs.Curves.{Curve}
use Rattle.curves.specs.Start.{start_row}
use Rattle.curves.proofs.RaisedRows.{start_row-high}
use Rattle.rows.specs.Bytes.{slot, curve_bytes, rows_bytes, place, Holds}
use Rattle.rows.specs.Filling.{HoldsRow, FilledLow, RaisesRow, raised_row, Fills}
use Rattle.rows.specs.declared.Shape.{Shape}
use Rattle.rows.proofs.Placing.{slot-end, row-end, rows-apart, slot-inside}
use Rattle.rows.proofs.fill.LowRows.{slot-fits}
use Rattle.rows.proofs.fill.Copies.{copied-is, length-copied, copied-inside, copied-outside}

-- y times the row before
module _ {S : Shape} {i : ℕ} {xs : List ℕ} (a : RaisesRow S i xs) where
  pub copy-ends : i * curve_bytes S + curve_bytes S ≤ length xs
  copy-ends = let w = row-end S a.inside in let r = a.room in omega arith

  abbrev from : ℕ
  from = (i - 1) * curve_bytes S

  abbrev to : ℕ
  to = i * curve_bytes S + slot S

  abbrev len : ℕ
  len = curve_bytes S - slot S

  row-room : to + len ≤ length xs
  row-room = let w = slot-fits S in omega (arith, copy-ends)

  -- the bytes that the library's copy leaves
  pub row-copied : {ys : List ℕ} → length ys ≡ length xs → CopiedTo xs ys from to (i * curve_bytes S - slot S - from)
      → SameBelow xs ys to → SameFrom xs ys (to + (i * curve_bytes S - slot S - from)) → ys ≡ raised_row S i xs
  row-copied long inside below above =
      let n = a.some in
      let f : suc (i - 1) ≡ i = omega arith in
      let m = suc-mul (i - 1) (curve_bytes S) in
      let g = ap (λ (x : ℕ). x * curve_bytes S) f in
      let e : i * curve_bytes S - slot S - from ≡ len = omega arith in
      copied-is from to xs len row-room long (rw e at inside) below (rw e at above)

  pub raised-kept : Kept (i * curve_bytes S) (curve_bytes S) xs (raised_row S i xs)
  raised-kept =
      let w = slot-fits S in
      record {
        long = length-copied from to xs len;
        same = λ q o. copied-outside from to xs len q (⊎_elim (λ k. inl (omega arith)) (λ k. inr (omega arith)) o);
      }

  pub raised-holds : (Q : Curve (symbols S.p).ring) → HoldsRow S (i - 1) Q xs → ((d : ℕ) → d ≤ S.width
      → get_or xs (i * curve_bytes S + d) 0 ≡ 0)
      → HoldsRow S i (cons_s (Series (symbols S.p).ring) (zero_s (symbols S.p).ring) Q) (raised_row S i xs)
  unfolding cons_s zero_s
  raised-holds Q f g zero d o k =
      let z : place S i zero d ≡ i * curve_bytes S + d = omega arith in
      copied-outside from to xs len (place S i zero d) (inl (omega arith))
      ∙ ap (λ (q : ℕ). get_or xs q 0) z
      ∙ g d k
      ∙ sym (zero-byte S.p)
  raised-holds Q f g (suc j) d o k =
      let w = slot-end S {j = suc j} o in
      let v = slot-fits S in
      let u = suc-mul j (slot S) in
      let z : place S i (suc j) d ≡ to + (j * slot S + d) = omega arith in
      let y : from + (j * slot S + d) ≡ place S (i - 1) j d = omega arith in
      ap (λ (q : ℕ). get_or (raised_row S i xs) q 0) z
      ∙ copied-inside from to xs len (j * slot S + d) row-room (omega arith)
      ∙ ap (λ (q : ℕ). get_or xs q 0) y
      ∙ f j d (omega arith) k

-- the rows before row i are in place, and the bytes from there on are zero
pub record RowsFilled (S : Shape) (rows : ℕ → Curve (symbols S.p).ring) (i : ℕ) (before after : List ℕ) : Type 0 where
  pub done : (q : ℕ) → q < i → q ≤ S.l → HoldsRow S q (rows q) after
  pub bare : (q : ℕ) → i * curve_bytes S ≤ q → q < rows_bytes S → get_or after q 0 ≡ 0
  pub rest : Untouched (rows_bytes S) before after

module _ {S : Shape} {rows : ℕ → Curve (symbols S.p).ring} where
  -- row i changes, and is in place then
  module _ {i : ℕ} {xs ys : List ℕ} (inside : i ≤ S.l) (f : RowsFilled S rows i xs ys) where
    -- it is zero so far
    pub filled-bare : (q : ℕ) → q < curve_bytes S → get_or ys (i * curve_bytes S + q) 0 ≡ 0
    filled-bare q k = f.bare (i * curve_bytes S + q) (omega arith) (let w = row-end S inside in omega arith)

    filled-row : {zs : List ℕ} → Kept (i * curve_bytes S) (curve_bytes S) ys zs → HoldsRow S i (rows i) zs
        → RowsFilled S rows (i + 1) xs zs
    filled-row {zs} k h =
        let w = row-end S inside in
        let v = suc-mul i (curve_bytes S) in
        let a = add-one i in
        record {
          done = λ q m g. done q m g (ℕ_discrete q i);
          bare = λ q m g. let m' : suc i * curve_bytes S ≤ q = rw a at m in k.same q (inr (omega arith)) ∙ f.bare q (omega arith) g;
          rest = record { long = k.long ∙ f.rest.long; same = λ q m. k.same q (inr (omega arith)) ∙ f.rest.same q m };
        }
      where
        done : (q : ℕ) → q < i + 1 → q ≤ S.l → Dec (q ≡ i) → HoldsRow S q (rows q) zs
        done q m g (yes e) j d o u = rw e (h j d o u)
        done q m g (no e) j d o u =
            let w = rows-apart S {i = q} {k = i} (omega arith) in
            let v = slot-inside S o u in
            k.same (place S q j d) (inl (omega arith)) ∙ f.done q (omega arith) g j d o u

-- the rows that are filled
abbrev pub to_fill : (S : Shape) → ℕ → List ℕ → List ℕ → ℕ → Curve (symbols S.p).ring
to_fill S m h e = start_row (symbols S.p).ring m (symbols_of S.p e) (symbols_of S.p h)

module _ (S : Shape) (m : ℕ) (h e : List ℕ) {i : ℕ} {xs ys zs : List ℕ} (inside : i ≤ S.l) (f : RowsFilled S
    (to_fill S m h e) i xs ys) where
  pub filled-low : FilledLow S i m h e ys zs → RowsFilled S (to_fill S m h e) (i + 1) xs zs
  filled-low b = filled-row inside f b.kept b.is

  pub filled-high : Listed S.p → m < i → RaisesRow S i ys → zs ≡ raised_row S i ys → RowsFilled S (to_fill S m h e) (i + 1) xs zs
  filled-high size k a d = filled-row inside f (rw d (raised-kept a)) (rw d is)
    where
      is : HoldsRow S i (to_fill S m h e i) (raised_row S i ys)
      is =
          let z : i ≡ suc (i - 1) = omega arith in
          let high = start_row-high (symbols-field S.p size).ring (symbols_of S.p e) (symbols_of S.p h) m (i - 1) (omega arith) in
          rw (ap (to_fill S m h e) z ∙ high)
          (raised-holds a (to_fill S m h e (i - 1)) (f.done (i - 1) (omega arith) (omega arith))
          (λ d u. filled-bare inside f d (let w = slot-inside S {j = zero} {e = d} (omega arith) u in omega arith)))

pub filled-all : {S : Shape} {rows : ℕ → Curve (symbols S.p).ring} {i : ℕ} {xs ys : List ℕ} → S.l < i → RowsFilled S rows i xs ys
    → Holds S ys rows
filled-all k f q j d g o u = f.done q (omega arith) g j d o u

-- h and e as parts of the work
module _ {S : Shape} {work rows : List ℕ} (a : Fills S work rows) where
  pub h-below : AllBelow S.p (take 32 work)
  h-below = below-take 32 work a.below

  pub e-below : AllBelow S.p (take (length work - 32) (drop 32 work))
  e-below = below-take (length work - 32) (drop 32 work) (below-drop 32 work a.below)
