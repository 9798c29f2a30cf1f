-- Products in lent bytes: an x-polynomial times a power, and a curve times y - h, one slot after the other.
use mathlib.Core.Path.{◌≡◌, sym, ap, ◌∙◌}
use mathlib.Core.Logic.{inl, inr}
use mathlib.Core.List.{List}
use Prim.Native.Nat.{ℕ, suc, ◌+◌, ◌-◌, ◌*◌, ◌≤◌, ◌<◌}
use native.Mathlib.Nat.{suc-mul}
use native.Mathlib.Numerals.{add-one}
use native.Mathlib.Decide.{ℕ_discrete}
use native.Mathlib.Omega.{arith}
use lib.ListN.{length, get_or}
use Rattle.field.specs.Field.{Ring, RingLaws, pow}
use Rattle.field.specs.Symbols.{Element, symbol, symbols, sum_of, product_of, negative_of, symbols_of}
use Rattle.field.specs.Operations.{neg_byte, Listed}
use Rattle.field.specs.Kernels.{Region, Subtracts, Scales, subtracted, scaled}
use Rattle.field.proofs.RingLaws.{mul_assoc, one-mul, neg-mul, neg-neg}
use Rattle.field.proofs.Sums.{pow-zero, pow-suc}
use Rattle.field.proofs.SymbolLaws.{symbols-field, symbol-byte, byte-is}
use Rattle.field.proofs.OperationLaws.{symbol-neg_byte, neg_byte-below}
use Rattle.field.proofs.KernelLaws.{length-subtracted, subtracted-outside, subtracted-below, subtracted-symbol, length-scaled, scaled-outside}
use Rattle.field.proofs.KernelLaws.{scaled-below, scaled-symbol}
use Rattle.poly.specs.Polynomials.{Seq, Series, mul_s}
use Rattle.poly.specs.Buffers.{from, Factors, product_from, Kept, Product}
use Rattle.poly.proofs.Series.{series}
use Rattle.poly.proofs.Products.{product-low}
use Rattle.poly.proofs.BufferLaws.{kept-none, kept-then, kept-wider, region-symbols}
use Rattle.curves.proofs.RaisedRows.{raised-zero, raised-suc, raised-low}
use Rattle.rows.specs.Filling.{Power, slots_at, raised, RaisedSlot}
use Rattle.rows.proofs.Placing.{block-end}

-- the x-polynomial in a region times -f
pub record Negated (p : ℕ) (f : List ℕ) (at len : ℕ) (before after : List ℕ) : Type 0 where
  pub kept : Kept at len before after
  pub is : (e : ℕ) → e < len → get_or after (at + e) 0 ≡ (negative_of p (product_from p f before at e)).byte

module _ {p : ℕ} (l : Listed p) where
  abbrev R : Ring
  R = (symbols p).ring

  L : RingLaws R
  L = (symbols-field p l).ring

  -- f^i times what stood there
  module _ {f : List ℕ} {at len : ℕ} {xs : List ℕ} (a : Factors p f at len xs) where
    abbrev power : ℕ → Seq R
    power i = mul_s R (pow (Series R) (symbols_of p f) i) (from p xs at)

    pub power-none : Power p f 0 at len xs xs
    power-none =
        record {
          kept = kept-none at len xs;
          power = λ e h. byte-is p (power 0 e) (a.region.below e h) (rw (
            pow-zero (Series R) (symbols_of p f),
            one-mul (series L) (from p xs at),
          ));
        }

    module _ {i : ℕ} {ys : List ℕ} (b : Power p f i at len xs ys) where
      pub power-more : {zs : List ℕ} → Product p f at len ys zs → Power p f (i + 1) at len xs zs
      power-more c = record { kept = kept-then b.kept c.kept; power = λ e h. c.product e h ∙ ap (λ (x : Element p). x.byte) (more e h) }
        where
          more : (e : ℕ) → e < len → product_from p f ys at e ≡ power (i + 1) e
          more e h =
              product-low R (symbols_of p f) (from p ys at) (power i) e (λ k g. rw (b.power k (omega arith)) (symbol-byte p (power i k)))
              ∙ rw (
                add-one i,
                pow-suc (Series R) (symbols_of p f) i,
                mul_assoc (series L) (symbols_of p f) (pow (Series R) (symbols_of p f) i) (from p xs at),
              )

  -- a slot of (y - h) Q: times h, times -1, and the slot below added as it is taken off -1 times
  module _ {c : ℕ} (minus : c ≡ neg_byte p 1) where
    opposite : (a : Element p) → product_of p (symbol p c) a ≡ negative_of p a
    opposite a = rw (minus, symbol-neg_byte p 1, neg-mul L (symbol p 1) a, one-mul L a)

    below : c < p
    below = rw minus (neg_byte-below l 1)

    module _ {f : List ℕ} {at len : ℕ} {xs : List ℕ} (a : Factors p f at len xs) where
      pub slot-scales : {ys : List ℕ} → Product p f at len xs ys → Scales p c at len ys
      slot-scales b = record { size = l; factor = below; target = region-symbols (product_from p f xs at) l a.region b.kept b.product }

      pub slot_negated : {ys zs : List ℕ} → Product p f at len xs ys → zs ≡ scaled p c at len ys → Negated p f at len xs zs
      slot_negated {ys} b e =
          let w : at + len ≤ length ys = rw b.kept.long a.region.within in
          rw e
          record {
            kept = kept-then b.kept (record { long = length-scaled p c at ys len; same = scaled-outside p c at ys len });
            is = λ i h.
                byte-is p (negative_of p (product_from p f xs at i)) (scaled-below p c at ys len i w h l)
                (scaled-symbol p c at ys len i w h ∙ rw (b.product i h, symbol-byte) (opposite (product_from p f xs at i)));
          }

      -- the slot below is still as it was
      pub slot-subtracts : {from : ℕ} {zs : List ℕ} → from + len ≤ at → Region p from len xs → Negated p f at len xs zs
          → Subtracts p c at from len zs
      slot-subtracts {from} h r b =
          record {
            size = l;
            factor = below;
            target = region-symbols (λ i. negative_of p (product_from p f xs at i)) l a.region b.kept b.is;
            source =
                record { within = rw b.kept.long r.within; below = λ i k. rw (b.kept.same (from + i) (inl (omega arith))) (r.below i k) };
            apart = inr h;
          }

    module _ {h : List ℕ} {base slot : ℕ} (j : ℕ) {xs zs : List ℕ} (n : Negated p h (base + j * slot) slot xs zs) where
      pub raised-lowest : j ≡ 0 → RaisedSlot p h base slot j xs zs
      raised-lowest e =
          record {
            kept = n.kept;
            is = λ i k. n.is i k ∙ rw e (ap (λ (a : Element p). a.byte) (sym (raised-zero L (symbols_of p h)
                (slots_at p base slot xs) i)));
          }

      pub raised-above : (from : ℕ) {ws : List ℕ} → 0 < j → from + slot ≡ base + j * slot → base + j * slot + slot ≤ length xs
          → ws ≡ subtracted p c (base + j * slot) from slot zs → RaisedSlot p h base slot j xs ws
      raised-above from {ws} some d room e =
          rw e
          record {
            kept = kept-then n.kept (record {
              long = length-subtracted p c at from zs slot;
              same = subtracted-outside p c at from zs slot;
            });
            is = λ i k. byte-is p (raised p h base slot xs j i) (subtracted-below p c at from zs slot i w k l)
                (subtracted-symbol p c at from zs slot i w k ∙ value i k);
          }
        where
          at : ℕ
          at = base + j * slot

          w : at + slot ≤ length zs
          w = rw n.kept.long room

          value : (i : ℕ) → i < slot → sum_of p (symbol p (get_or zs (at + i) 0))
              (negative_of p (product_of p (symbol p c) (symbol p (get_or zs (from + i) 0)))) ≡ raised p h base slot xs j i
          value i k =
              rw (
                n.is i k,
                symbol-byte,
                n.kept.same (from + i) (inl (omega arith)),
                opposite (symbol p (get_or xs (from + i) 0)),
                neg-neg L (symbol p (get_or xs (from + i) 0)),
              )
              (next (j - 1) (omega arith))
            where
              next : (q : ℕ) → j ≡ suc q → sum_of p (negative_of p (product_from p h xs at i)) (symbol p (get_or xs (from + i) 0))
                  ≡ raised p h base slot xs j i
              next q f =
                  let m = suc-mul q slot in
                  let g = ap (λ (x : ℕ). x * slot) f in
                  let z : from ≡ base + q * slot = omega arith in
                  rw (z, f) (sym (raised-suc L (symbols_of p h) (slots_at p base slot xs) q i))

-- (y - h) Q downwards: the slots from j on are in place, and what stands below is as it was
pub record Raising (p : ℕ) (h : List ℕ) (base slot slots j : ℕ) (before after : List ℕ) : Type 0 where
  pub kept : Kept base (slots * slot) before after
  pub same : (q : ℕ) → q < base + j * slot → get_or after q 0 ≡ get_or before q 0
  pub is : (i e : ℕ) → j ≤ i → i < slots → e < slot → get_or after (base + i * slot + e) 0 ≡ (raised p h base slot before i e).byte

module _ {p : ℕ} {h : List ℕ} {base slot slots : ℕ} where
  module _ (l : Listed p) {j : ℕ} (some : 0 < j) (most : j ≤ slots) {xs ys : List ℕ} (r : Raising p h base slot slots j xs ys) where
    top : (j - 1) * slot + slot ≤ slots * slot
    top = block-end slot (omega arith)

    pub raising-more : {zs : List ℕ} → RaisedSlot p h base slot (j - 1) ys zs → Raising p h base slot slots (j - 1) xs zs
    raising-more {zs} b =
        record {
          kept = kept-then r.kept (kept-wider ((j - 1) * slot) top b.kept);
          same = λ q k. b.kept.same q (inl k) ∙ r.same q (let n = block-end slot {i = j - 1} {k = j} (omega arith) in omega arith);
          is = λ i e k m g. go i e k m g (ℕ_discrete i (j - 1));
        }
      where
        -- the slots up to this one are as they were
        old : (e : ℕ) → e < slot → (i q : ℕ) → i ≤ j - 1 → q ≤ e → slots_at p base slot ys i q ≡ slots_at p base slot xs i q
        old e g i q k f = let n = block-end slot {i = i} {k = j} (omega arith) in ap (symbol p) (r.same (base + i * slot + q)
            (omega arith))

        go : (i e : ℕ) → j - 1 ≤ i → i < slots → e < slot → Dec (i ≡ j - 1) → get_or zs (base + i * slot + e) 0
            ≡ (raised p h base slot xs i e).byte
        go i e k m g (yes d) =
            rw d (b.is e g ∙ ap (λ (a : Element p). a.byte)
            (raised-low (symbols-field p l).ring (symbols_of p h) (slots_at p base slot ys) (slots_at p base slot xs) (j - 1) e (old e g)))
        go i e k m g (no d) =
            let n = block-end slot {i = j - 1} {k = i} (omega arith) in
            b.kept.same (base + i * slot + e) (inr (omega arith)) ∙ r.is i e (omega arith) m g
