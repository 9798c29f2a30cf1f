-- The bytes that an update leaves: what the kernels ask of them, and that they hold the rows of the rule.
use mathlib.Core.Path.{◌≡◌, refl, sym, ◌∙◌}
use mathlib.Core.Logic.{◌≢◌, ◌⊎◌, inl, inr, ⊎_elim}
use mathlib.Core.List.{List, [], ◌∷◌}
use Prim.Native.Nat.{ℕ, zero, ◌+◌, ◌-◌, ◌*◌, ◌≤◌, ◌<◌}
use native.Mathlib.Decide.{dec_lt, ℕ_discrete}
use native.Mathlib.Omega.{arith}
use lib.ListN.{length, get_or}
use Rattle.field.specs.Field.{Ring, RingLaws, Field, FieldLaws}
use Rattle.field.specs.Symbols.{Element, symbol, symbols, product_of, negative_of}
use Rattle.field.specs.Operations.{neg_byte}
use Rattle.field.specs.Kernels.{Subtracts, Scales, subtracted, scaled}
use Rattle.field.proofs.RingTactic.{ring}
use Rattle.field.proofs.OperationLaws.{symbol-neg_byte}
use Rattle.field.proofs.SymbolLaws.{symbols-field, symbol-byte, byte-is}
use Rattle.field.proofs.KernelLaws.{length-subtracted, length-scaled, scaled-outside, scaled-symbol, subtracted-keeps, scaled-keeps}
use Rattle.poly.specs.Lent.{Untouched}
use Rattle.poly.proofs.Series.{readings}
use Rattle.poly.proofs.Monomials.{delay, delay-zero}
use Rattle.curves.specs.Curves.{Curve, Lead}
use Rattle.curves.specs.Turns.{cross}
use Rattle.curves.proofs.Crossing.{cross-at}
use Rattle.curves.proofs.Updates.{Swapped}
use Rattle.rows.specs.Bytes.{slot, curve_bytes, rows_bytes, place, rows_of, Holds}
use Rattle.rows.specs.Work.{Crosses, leads_ratio, updated_rows, Exchanges, Exchanged}
use Rattle.rows.specs.declared.Shape.{Shape}
use Rattle.rows.proofs.Placing.{block-end, row-end, slot-inside, place-apart, place-below, rows_of-at, holds-own}
use Rattle.rows.proofs.update.Moving.{Stands, Light, subtracted-curve, subtracted_elsewhere}
use Rattle.rows.proofs.update.CrossedRows.{crossed_r, crossed-s, crossed-other, crosses-w, crosses-v}

-- - c q - (-1) d
turned : {R : Ring} (L : RingLaws R) (c q d : R.Car)
    → R.plus (R.times (R.neg c) q) (R.neg (R.times (R.neg R.𝟙) d)) ≡ R.plus d (R.neg (R.times c q))
turned {R} L c q d = ring L (c ∷ q ∷ d ∷ []) (search readings depth 25) tt

module _ {S : Shape} {xs : List ℕ} {r w s v : ℕ} (x : Crosses S xs r w s v) where
  abbrev F : Field
  F = symbols S.p

  abbrev R : Ring
  R = F.ring

  abbrev rows : ℕ → Curve R
  rows = rows_of S xs

  abbrev c : Element S.p
  c = leads_ratio S xs r w s v

  Φ : FieldLaws (symbols S.p)
  Φ = symbols-field S.p x.bytes.fine.size

  -- rows r, s and the others, byte by byte
  module _ (ys : List ℕ)
      (new : (j e : ℕ) → j ≤ S.l → e ≤ S.width → get_or ys (place S r j e) 0 ≡ (cross R (v - w) (rows r) c (w - v) (rows s) j e).byte)
      (stays : v ≤ w → (j e : ℕ) → j ≤ S.l → e ≤ S.width → get_or ys (place S s j e) 0 ≡ get_or xs (place S s j e) 0)
      (turns : w < v → (j e : ℕ) → j ≤ S.l → e ≤ S.width → get_or ys (place S s j e) 0 ≡ get_or xs (place S r j e) 0)
      (others : (i j e : ℕ) → i ≢ r → i ≢ s → j ≤ S.l → e ≤ S.width → get_or ys (place S i j e) 0 ≡ get_or xs (place S i j e) 0) where
    update-holds : Holds S ys (updated_rows S xs r w s v)
    update-holds i j e g h k = go (ℕ_discrete i r) (ℕ_discrete i s) (crossed-s x)
      where
        own : (i : ℕ) → i ≤ S.l → get_or xs (place S i j e) 0 ≡ (rows i j e).byte
        own i g = holds-own x.bytes i j e g h k

        go : Dec (i ≡ r) → Dec (i ≡ s) → Swapped R w v (rows r) (rows s) (updated_rows S xs r w s v s)
            → get_or ys (place S i j e) 0 ≡ (updated_rows S xs r w s v i j e).byte
        go (yes q) b d = rw (q, crossed_r x) (new j e h k)
        go (no a) (no b) d = rw (crossed-other x i a b) (others i j e a b h k ∙ own i g)
        go (no a) (yes q) (inl (l, d)) = rw (q, d) (stays l j e h k ∙ own s x.other)
        go (no a) (yes q) (inr (l, d)) = rw (q, d) (turns l j e h k ∙ own r x.current)

  -- no term of a curve weighs more than its leading term
  lead_bounds : {w : ℕ} {Q : Curve R} → Lead R S.u w s Q → Light S w Q
  lead_bounds l j e h = l.rest j e (omega arith) (λ k. absurd (omega arith))

  rows_stand : (i : ℕ) → i ≤ S.l → Stands S xs (i * curve_bytes S) (rows i)
  rows_stand i g j e h k = sym (rows_of-at S xs g h k)

  room : (i : ℕ) → i ≤ S.l → i * curve_bytes S + curve_bytes S ≤ length xs
  room i g = let a = row-end S g in let b = x.bytes.room in omega arith

  -- and its bytes from the d-th on
  run-room : (d : ℕ) → d ≤ S.width → r * curve_bytes S + d + (curve_bytes S - d) ≤ length xs
  run-room d h = let a = room r x.current in let b = slot-inside S {j = zero} {e = S.width} (omega arith) (omega arith) in omega arith

  -- row r - c x^d row s
  module _ (h : v ≤ w) where
    abbrev once : List ℕ
    once = subtracted S.p c.byte (r * curve_bytes S + (w - v)) (s * curve_bytes S) (curve_bytes S - (w - v)) xs

    pub subtract-holds : Holds S once (updated_rows S xs r w s v)
    subtract-holds =
        update-holds once new
        (λ _ j e g k. outside s j e x.apart g k)
        (λ l. absurd (omega arith))
        (λ i j e a b g k. outside i j e a g k)
      where
        outside : (i j e : ℕ) → i ≢ r → j ≤ S.l → e ≤ S.width → get_or once (place S i j e) 0 ≡ get_or xs (place S i j e) 0
        outside i j e n g k =
            subtracted_elsewhere S c.byte (s * curve_bytes S) r (w - v) xs (let a = crosses-w x in omega arith) (place S i j e)
            (place-apart S n g k)

        new : (j e : ℕ) → j ≤ S.l → e ≤ S.width → get_or once (place S r j e) 0 ≡ (cross R (v - w) (rows r) c (w - v) (rows s) j e).byte
        new j e g k =
            let z : v - w ≡ 0 = omega arith in
            let fits = crosses-w x in
            byte-is S.p (cross R (v - w) (rows r) c (w - v) (rows s) j e)
            (subtracted-keeps x.bytes.fine.size c.byte _ (s * curve_bytes S) _ xs (run-room (w - v) (omega arith)) (place S r j e)
            (place-below x.bytes x.current g k))
            (subtracted-curve S xs (s * curve_bytes S) v (w - v) (rows s) (rows_stand s x.other) (lead_bounds x.lead_s) (omega arith)
            x.bytes.fine.size c.byte (r * curve_bytes S) (room r x.current) j e g k
            ∙ rw (
              rows_stand r x.current j e g k,
              symbol-byte S.p c,
              cross-at Φ.ring (v - w) (rows r) c (w - v) (rows s) j e,
              z,
              delay-zero R (rows r j) e,
            ))

  -- x^d row r - c row s, where the rows have changed places first
  module _ (h : w < v) (ys : List ℕ) (swapped : Exchanged (r * curve_bytes S) (s * curve_bytes S) (curve_bytes S) xs ys) where
    abbrev zs : List ℕ
    zs = scaled S.p (neg_byte S.p c.byte) (r * curve_bytes S) (curve_bytes S) ys

    abbrev twice : List ℕ
    twice = subtracted S.p (neg_byte S.p 1) (r * curve_bytes S + (v - w)) (s * curve_bytes S) (curve_bytes S - (v - w)) zs

    module _ {j e : ℕ} (g : j ≤ S.l) (k : e ≤ S.width) where
      at_r : get_or ys (place S r j e) 0 ≡ get_or xs (place S s j e) 0
      at_r =
          let a : place S r j e ≡ r * curve_bytes S + (j * slot S + e) = omega arith in
          let b : place S s j e ≡ s * curve_bytes S + (j * slot S + e) = omega arith in
          rw (a, b) (swapped.first (j * slot S + e) (slot-inside S g k))

      at-s : get_or ys (place S s j e) 0 ≡ get_or xs (place S r j e) 0
      at-s =
          let a : place S r j e ≡ r * curve_bytes S + (j * slot S + e) = omega arith in
          let b : place S s j e ≡ s * curve_bytes S + (j * slot S + e) = omega arith in
          rw (a, b) (swapped.second (j * slot S + e) (slot-inside S g k))

      scaled-apart : (i : ℕ) → i ≢ r → get_or zs (place S i j e) 0 ≡ get_or ys (place S i j e) 0
      scaled-apart i n = scaled-outside S.p (neg_byte S.p c.byte) (r * curve_bytes S) ys (curve_bytes S) (place S i j e)
          (place-apart S n g k)

    long : length zs ≡ length xs
    long = length-scaled S.p (neg_byte S.p c.byte) (r * curve_bytes S) ys (curve_bytes S) ∙ swapped.long

    pub exchange-holds : Holds S twice (updated_rows S xs r w s v)
    exchange-holds =
        update-holds twice new
        (λ l. absurd (omega arith))
        (λ l j e g k. outside s j e x.apart g k ∙ at-s g k)
        (λ i j e a b g k. outside i j e a g k ∙ swapped.rest (place S i j e) (place-apart S a g k) (place-apart S b g k))
      where
        d-small : v - w ≤ S.width
        d-small = let a = crosses-v x in omega arith

        outside : (i j e : ℕ) → i ≢ r → j ≤ S.l → e ≤ S.width → get_or twice (place S i j e) 0 ≡ get_or ys (place S i j e) 0
        outside i j e n g k =
            subtracted_elsewhere S (neg_byte S.p 1) (s * curve_bytes S) r (v - w) zs d-small (place S i j e) (place-apart S n g k)
            ∙ scaled-apart g k i n

        -- the old row r stands at row s, and row r is - c times the old row s
        stands : Stands S zs (s * curve_bytes S) (rows r)
        stands j e g k = rw (scaled-apart g k s x.apart, at-s g k) (rows_stand r x.current j e g k)

        scaled-row : (j e : ℕ) → j ≤ S.l → e ≤ S.width
            → symbol S.p (get_or zs (place S r j e) 0) ≡ product_of S.p (negative_of S.p c) (rows s j e)
        scaled-row j e g k =
            let a : place S r j e ≡ r * curve_bytes S + (j * slot S + e) = omega arith in
            let t = room r x.current in
            let u = swapped.long in
            let z = scaled-symbol S.p (neg_byte S.p c.byte) (r * curve_bytes S) ys (curve_bytes S) (j * slot S + e) (omega arith)
            (slot-inside S g k) in
            rw (← a, at_r g k, symbol-neg_byte, symbol-byte, rows_stand s x.other j e g k) at z

        new : (j e : ℕ) → j ≤ S.l → e ≤ S.width → get_or twice (place S r j e) 0 ≡ (cross R (v - w) (rows r) c (w - v) (rows s) j e).byte
        new j e g k =
            let z : w - v ≡ 0 = omega arith in
            let fits = crosses-v x in
            let t = room r x.current in
            let u = swapped.long in
            byte-is S.p (cross R (v - w) (rows r) c (w - v) (rows s) j e)
            (subtracted-keeps x.bytes.fine.size (neg_byte S.p 1) _ (s * curve_bytes S) _ zs (rw long (run-room (v - w) d-small))
            (place S r j e)
            (scaled-keeps x.bytes.fine.size (neg_byte S.p c.byte) (r * curve_bytes S) (curve_bytes S) ys (omega arith) (place S r j e)
            (rw (at_r g k) (place-below x.bytes x.other g k))))
            (subtracted-curve S zs (s * curve_bytes S) w (v - w) (rows r) stands (lead_bounds x.lead_r) (omega arith) x.bytes.fine.size
            (neg_byte S.p 1) (r * curve_bytes S) (rw long t) j e g k
            ∙ rw (
              scaled-row j e g k,
              symbol-neg_byte,
              cross-at Φ.ring (v - w) (rows r) c (w - v) (rows s) j e,
              z,
              delay-zero R (rows s j) e,
            )
            (turned Φ.ring c (rows s j e) (delay R (v - w) (rows r j) e)))

-- what the kernels ask and leave, with the curve's bytes and the factors as the code has them
module _ {S : Shape} {xs : List ℕ} {r w s v : ℕ} (x : Crosses S xs r w s v) {len : ℕ} (is : len ≡ curve_bytes S) where
  pub row_in : (i : ℕ) → i ≤ S.l → i * len + len ≤ rows_bytes S
  row_in i g = rw is (row-end S g)

  pub width_in : S.width < len
  width_in = let a = slot-inside S {j = zero} {e = S.width} (omega arith) (omega arith) in omega arith

  -- rows r and s do not overlap, nor do their first bytes
  rows-away : (r * len + len ≤ s * len) ⊎ (s * len + len ≤ r * len)
  rows-away = go (dec_lt r s)
    where
      go : Dec (r < s) → (r * len + len ≤ s * len) ⊎ (s * len + len ≤ r * len)
      go (yes h) = inl (block-end len h)
      go (no h) = let n = x.apart in inr (block-end len (omega arith))

  pub asks_swap : Exchanges (r * len) (s * len) len xs
  asks_swap =
      let a = row_in r x.current in
      let b = row_in s x.other in
      let m = x.bytes.room in
      record { first = omega arith; second = omega arith; apart = rows-away }

  -- any list of that length, of which both rows are below p
  module _ {ys : List ℕ} (long : length ys ≡ length xs) (below_r : (i : ℕ) → i < len → get_or ys (r * len + i) 0 < S.p)
      (below_s : (i : ℕ) → i < len → get_or ys (s * len + i) 0 < S.p) where
    scales : {k : ℕ} → k < S.p → Scales S.p k (r * len) len ys
    scales h =
        let a = row_in r x.current in
        let m = x.bytes.room in
        record { size = x.bytes.fine.size; factor = h; target = record { within = omega arith; below = below_r } }

    subtracts : {k d : ℕ} → d ≤ S.width → k < S.p → Subtracts S.p k (r * len + d) (s * len) (len - d) ys
    subtracts {k} {d} small h =
        let a = row_in r x.current in
        let b = row_in s x.other in
        let m = x.bytes.room in
        let n = width_in in
        record {
          size = x.bytes.fine.size;
          factor = h;
          target =
              record {
                within = omega arith;
                below = λ i l. let e : r * len + d + i ≡ r * len + (d + i) = omega arith in
                    rw e (below_r (d + i) (omega arith));
              };
          source = record { within = omega arith; below = λ i l. below_s i (omega arith) };
          apart = ⊎_elim (λ y. inl (omega arith)) (λ y. inr (omega arith)) rows-away;
        }

  below : (i : ℕ) → i ≤ S.l → (q : ℕ) → q < len → get_or xs (i * len + q) 0 < S.p
  below i g q h = let a = row_in i g in x.bytes.below (i * len + q) (omega arith)

  pub asks_subtract : {k : ℕ} → k < S.p → Subtracts S.p k (r * len + (w - v)) (s * len) (len - (w - v)) xs
  asks_subtract h = let a = crosses-w x in subtracts refl (below r x.current) (below s x.other) (omega arith) h

  -- after the rows have changed places
  module _ {ys : List ℕ} (e : Exchanged (r * len) (s * len) len xs ys) where
    pub asks-scale : {k : ℕ} → k < S.p → Scales S.p k (r * len) len ys
    asks-scale = scales e.long (λ i h. rw (e.first i h) (below s x.other i h)) (λ i h. rw (e.second i h) (below r x.current i h))

    pub asks_exchanged : (k : ℕ) {n : ℕ} {zs : List ℕ} → zs ≡ scaled S.p k (r * len) len ys → n < S.p
        → Subtracts S.p n (r * len + (v - w)) (s * len) (len - (v - w)) zs
    asks_exchanged k is-scaled h =
        let a = crosses-v x in
        let m = row_in r x.current in
        let o = x.bytes.room in
        let l = e.long in
        let keeps = scaled-keeps x.bytes.fine.size k (r * len) len ys (omega arith) in
        subtracts (rw is-scaled (length-scaled S.p k (r * len) ys len ∙ e.long))
        (λ i b. rw is-scaled (keeps (r * len + i) (rw (e.first i b) (below s x.other i b))))
        (λ i b. rw is-scaled (keeps (s * len + i) (rw (e.second i b) (below r x.current i b))))
        (omega arith)
        h

    pub exchange-leaves : w < v → {ws : List ℕ} (f k n : ℕ) {zs : List ℕ}
        → f ≡ (leads_ratio S xs r w s v).byte → k ≡ neg_byte S.p f → n ≡ neg_byte S.p 1
        → zs ≡ scaled S.p k (r * len) len ys → ws ≡ subtracted S.p n (r * len + (v - w)) (s * len) (len - (v - w)) zs
        → Holds S ws (updated_rows S xs r w s v) × Untouched (rows_bytes S) xs ws
    exchange-leaves h {ws} f k n fs ks ns zs-is ws-is = (
      rw es (exchange-holds x h ys swapped),
      record {
        long = rw es (length-subtracted S.p _ _ _ _ _ ∙ length-scaled S.p _ _ ys _ ∙ e.long);
        same = λ q l.
            let a = crosses-v x in
            let b = row-end S x.current in
            let d = row-end S x.other in
            rw es (subtracted_elsewhere S _ _ r (v - w) _ (omega arith) q (inr (omega arith)) ∙ scaled-outside S.p _ (r * curve_bytes S) ys
            (curve_bytes S) q (inr (omega arith)) ∙ swapped.rest q (inr (omega arith)) (inr (omega arith)));
      },
    )
      where
        swapped : Exchanged (r * curve_bytes S) (s * curve_bytes S) (curve_bytes S) xs ys
        swapped = rw is at e

        es : ws ≡ subtracted S.p (neg_byte S.p 1) (r * curve_bytes S + (v - w)) (s * curve_bytes S) (curve_bytes S - (v - w))
            (scaled S.p (neg_byte S.p (leads_ratio S xs r w s v).byte) (r * curve_bytes S)
            (curve_bytes S) ys)
        es = rw (zs-is, ns, ks, fs, is) at ws-is

  pub subtract-leaves : v ≤ w → {ys : List ℕ} (k : ℕ) → k ≡ (leads_ratio S xs r w s v).byte
      → ys ≡ subtracted S.p k (r * len + (w - v)) (s * len) (len - (w - v)) xs
      → Holds S ys (updated_rows S xs r w s v) × Untouched (rows_bytes S) xs ys
  subtract-leaves h {ys} k ks ys-is = (
    rw es (subtract-holds x h),
    record {
      long = rw es (length-subtracted S.p _ _ _ xs _);
      same = λ q l. rw es (subtracted_elsewhere S _ _ r (w - v) xs (omega (arith, crosses-w x)) q (inr (omega (
        arith,
        row-end S x.current,
      ))));
    },
  )
    where
      es : ys ≡ subtracted S.p (leads_ratio S xs r w s v).byte (r * curve_bytes S + (w - v))
          (s * curve_bytes S) (curve_bytes S - (w - v)) xs
      es = rw (is, ks) at ys-is
