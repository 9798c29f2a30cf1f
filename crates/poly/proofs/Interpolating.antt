-- One place after the other: the bytes that `interpolate` works on, as the polynomial through the places so far and their locator.
use mathlib.Core.Path.{◌≡◌, refl, sym, ap, ◌∙◌, fun_ext}
use mathlib.Core.Logic.{◌≢◌, inl, inr}
use mathlib.Core.List.{List, [], ◌∷◌}
use Prim.Native.Nat.{ℕ, zero, suc, ◌+◌, ◌-◌, ◌≤◌, ◌<◌}
use native.Mathlib.Nat.{zero-add}
use native.Mathlib.Numerals.{add-one}
use native.Mathlib.Decide.{dec_lt}
use native.Mathlib.Omega.{arith}
use lib.ListN.{length, get_or, take, drop, set, replicate, length-take, length-drop, get_or-replicate}
use lib.Seq.{get_or-take, get_or-drop, get_or-set_other}
use Rattle.field.specs.Field.{Ring, FieldLaws}
use Rattle.field.specs.Symbols.{Element, symbol, sum_of, product_of, negative_of, inverse_of, symbols, symbols_of}
use Rattle.field.specs.Operations.{neg_byte, Listed}
use Rattle.field.specs.Kernels.{Subtracts, subtracted}
use Rattle.field.proofs.RingLaws.{mul_comm}
use Rattle.field.proofs.Sums.{prod-zero, prod-suc}
use Rattle.field.proofs.SymbolLaws.{symbol-byte, symbol-own, symbol_injective, byte-below, symbols-field, byte-is, zero-byte}
use Rattle.field.proofs.FieldLaws.{divided}
use Rattle.field.proofs.OperationLaws.{symbol-minus_bytes, symbol-times_bytes, symbol-inv_byte, symbol-neg_byte, times_bytes-below, neg_byte-below}
use Rattle.field.proofs.KernelLaws.{length-subtracted, subtracted-outside, subtracted-below, subtracted-symbol}
use Rattle.poly.specs.Polynomials.{Seq, Series, zero_s, one_s, cons_s, neg_s, scale_s, value, lin, locator, Through}
use Rattle.poly.specs.Encode.{value_at}
use Rattle.poly.specs.Buffers.{AllBelow, from, Factors, product_from, Product, Halves, correction_of, Places, Interpolated}
use Rattle.poly.proofs.Series.{zero_s-at, add_s-at, neg_s-at, scale_s-at, series}
use Rattle.poly.proofs.Evaluation.{value-more}
use Rattle.poly.proofs.Degrees.{monic-locator}
use Rattle.poly.proofs.CoprimePowers.{distinct-apart, Distinct}
use Rattle.poly.proofs.Interpolation.{interpolant_unique, locator-nonzero, next, through-next}
use Rattle.poly.proofs.BufferLaws.{symbols-are}
use Rattle.poly.proofs.Products.{product-low}

-- the points of places are different symbols
pub places-distinct : {p : ℕ} {points word : List ℕ} → Places p points word → Distinct (symbols p).ring (length points) (symbols_of p points)
places-distinct {p} {points} P i j l k e = go (dec_lt i j) (dec_lt j i)
  where
    same : get_or points i 0 ≡ get_or points j 0
    same = symbol_injective p (P.points_below i l) (P.points_below j k) e

    go : Dec (i < j) → Dec (j < i) → i ≡ j
    go (yes h) g = absurd (P.different (record { first = i; second = j; apart = h; inside = k; same = same }))
    go (no h) (yes g) = absurd (P.different (record { first = j; second = i; apart = g; inside = l; same = sym same }))
    go (no h) (no g) = omega arith

-- no place yet: h is 0 and e is 1
abbrev fresh : List ℕ
fresh = set (replicate 64 0) 32 1

pub interpolated-none : {p : ℕ} {points word : List ℕ} → Listed p → Interpolated p points word 0 fresh
unfolding one_s
interpolated-none {p} {points} l =
    record {
      long = refl;
      h = zero_s (symbols p).ring;
      through = record { short = λ i g. zero_s-at (symbols p).ring i; hits = λ r g. absurd (omega arith) };
      low = λ i g. other i (omega arith) (omega arith) ∙ rw (zero_s-at (symbols p).ring i) (sym (zero-byte p));
      high = λ i g. rw (prod-zero (Series (symbols p).ring) (λ r. lin (symbols p).ring (symbols_of p points r))) (one i g);
    }
  where
    other : (i : ℕ) → i < 64 → i ≢ 32 → get_or fresh i 0 ≡ 0
    other i g n = get_or-set_other (replicate 64 0) 32 i 1 0 n ∙ get_or-replicate 64 i 0 0 g

    one : (i : ℕ) → i < 32 → get_or fresh (32 + i) 0 ≡ (one_s (symbols p).ring i).byte
    one zero g = sym (symbol-own p (let q = l.large in omega arith))
    one (suc i) g = other (32 + suc i) (omega arith) (λ z. omega arith) ∙ sym (zero-byte p)

-- one polynomial goes through the places, and no other
pub places-only : {p : ℕ} {points word : List ℕ} → Places p points word → {g h : Seq (symbols p).ring}
    → Through (symbols p).ring (length points) (symbols_of p points) (symbols_of p word) g
    → Through (symbols p).ring (length points) (symbols_of p points) (symbols_of p word) h → g ≡ h
places-only {p} {points} {word} P {g} {h} =
    let Φ = symbols-field p P.size in
    interpolant_unique Φ.ring (length points) (symbols_of p points) (symbols_of p word) g h
    (distinct-apart Φ (length points) (symbols_of p points) (places-distinct P))

module _ {p : ℕ} {points word work : List ℕ} {s : ℕ} (P : Places p points word) (t : Interpolated p points word s work) where
  abbrev R : Ring
  R = (symbols p).ring

  Φ : FieldLaws (symbols p)
  Φ = symbols-field p P.size

  abbrev e : Seq R
  e = locator R s (symbols_of p points)

  pub interpolated-below : AllBelow p work
  interpolated-below i l = go (dec_lt i 32)
    where
      go : Dec (i < 32) → get_or work i 0 < p
      go (yes h) = rw (t.low i h) (byte-below P.size (t.h i))
      go (no h) =
          let long = t.long in
          let is : i ≡ 32 + (i - 32) = omega arith in
          rw (is, t.high (i - 32) (omega arith)) (byte-below P.size (e (i - 32)))

  length-low : length (take 32 work) ≡ 32
  length-low = let long = t.long in simp length-take (omega arith)

  length-high : length (drop 32 work) ≡ 32
  length-high = let long = t.long in simp length-drop (omega arith)

  -- the two halves are h and e
  module _ (most : s ≤ length points) where
    few : s < 32
    few = let n = P.count in let q = P.size.small in omega arith

    pub interpolated-h : symbols_of p (take 32 work) ≡ t.h
    interpolated-h =
        let n = length-low in let f = few in
        symbols-are p (take 32 work) t.h (λ i g. t.through.short i (omega arith))
        (λ i g. get_or-take 32 work i 0 (omega arith) ∙ t.low i (omega arith))

    pub interpolated-e : symbols_of p (drop 32 work) ≡ e
    interpolated-e =
        let n = length-high in let f = few in
        symbols-are p (drop 32 work) e (λ i g. (monic-locator Φ.ring s (symbols_of p points)).rest i (omega arith))
        (λ i g. get_or-drop 32 work i 0 ∙ t.high i (omega arith))

  module _ (l : s < length points) where
    -- the next place
    abbrev a : ℕ
    a = get_or points s 0

    abbrev b : ℕ
    b = get_or word s 0

    pub next_halves : Halves p a b work
    next_halves =
        record {
          size = P.size;
          point = P.points_below s l;
          wanted = P.word_below s (let q = P.same in omega arith);
          long = t.long;
          below = interpolated-below;
        }

    pub next-subtracts : Subtracts p (correction_of p a b work) 0 32 32 work
    next-subtracts =
        let long = t.long in
        record {
          size = P.size;
          factor = times_bytes-below P.size _ _;
          target = record { within = omega arith; below = λ i g. interpolated-below (0 + i) (omega arith) };
          source = record { within = omega arith; below = λ i g. interpolated-below (32 + i) (omega arith) };
          apart = inl (omega arith);
        }

    value-h : value_at p (take 32 work) a ≡ value R (symbol p a) s t.h
    value-h =
        rw (
          length-low,
          interpolated-h (omega arith),
          value-more Φ.ring (symbol p a) s 32 t.h t.through.short (let f = few (omega arith) in omega arith),
        )

    value-e : value_at p (drop 32 work) a ≡ value R (symbol p a) (suc s) e
    value-e =
        rw (
          length-high,
          interpolated-e (omega arith),
          value-more Φ.ring (symbol p a) (suc s) 32 e (monic-locator Φ.ring s (symbols_of p points)).rest (few (omega arith)),
        )

    abbrev C : Element p
    C = symbol p (correction_of p a b work)

    mends : product_of p C (value R (symbol p a) (suc s) e) ≡ sum_of p (value R (symbol p a) s t.h) (negative_of p (symbol p b))
    mends =
        let E = value R (symbol p a) (suc s) e in
        let D = sum_of p (value R (symbol p a) s t.h) (negative_of p (symbol p b)) in
        let nonzero = locator-nonzero Φ s (symbols_of p points) (λ i j k g. places-distinct P i j (omega arith) (omega arith)) in
        let is : C ≡ product_of p D (inverse_of p E) =
        rw (symbol-times_bytes, symbol-minus_bytes, symbol-inv_byte, value-h, value-e, symbol-byte, symbol-byte) in
        rw is (divided Φ D E nonzero)

    -- the factor x - a
    factor-is : symbols_of p (neg_byte p a ∷ 1 ∷ []) ≡ lin R (symbol p a)
    unfolding lin cons_s one_s
    factor-is = fun_ext go
      where
        go : (i : ℕ) → symbol p (get_or (neg_byte p a ∷ 1 ∷ []) i 0) ≡ lin R (symbol p a) i
        go zero = symbol-neg_byte p a
        go (suc zero) = refl
        go (suc (suc i)) = refl

    abbrev mended : List ℕ
    mended = subtracted p (correction_of p a b work) 0 32 32 work

    abbrev h' : Seq R
    h' = next Φ s (symbols_of p points) (symbols_of p word) t.h C

    mended-low : (i : ℕ) → i < 32 → get_or mended i 0 ≡ (h' i).byte
    mended-low i g =
        let room : 0 + 32 ≤ length work = let long = t.long in omega arith in
        let is : symbol p (get_or mended (0 + i) 0) ≡ h' i =
        subtracted-symbol p (correction_of p a b work) 0 32 work 32 i room g
        ∙ rw (
          zero-add i,
          t.low i g,
          t.high i g,
          symbol-byte p (t.h i),
          symbol-byte p (e i),
          add_s-at R t.h (neg_s R (scale_s R C e)) i,
          neg_s-at R (scale_s R C e) i,
          scale_s-at R C e i,
        ) in
        ap (λ (n : ℕ). get_or mended n 0) (sym (zero-add i))
        ∙ byte-is p (h' i) (subtracted-below p (correction_of p a b work) 0 32 work 32 i room g P.size) is

    mended-high : (i : ℕ) → i < 32 → from p mended 32 i ≡ e i
    mended-high i g =
        rw (subtracted-outside p (correction_of p a b work) 0 32 work 32 (32 + i) (inr (omega arith)), t.high i g) (symbol-byte p (e i))

    pub next_factors : Factors p (neg_byte p a ∷ 1 ∷ []) 32 32 mended
    next_factors =
        record {
          size = P.size;
          factor = factor;
          short = omega arith;
          region =
              record {
                within = let long = t.long in let same = length-subtracted p (correction_of p a b work) 0 32 work 32 in omega arith;
                below = λ i g. rw (subtracted-outside p (correction_of p a b work) 0 32 work 32 (32 + i) (inr (omega arith)))
                    (interpolated-below (32 + i) (let long = t.long in omega arith));
              };
        }
      where
        factor : AllBelow p (neg_byte p a ∷ 1 ∷ [])
        factor zero g = neg_byte-below P.size a
        factor (suc zero) g = let q = P.size.large in omega arith
        factor (suc (suc i)) g = absurd (omega arith)

    locator-next : (i : ℕ) → i < 32 → product_from p (neg_byte p a ∷ 1 ∷ []) mended 32 i ≡ locator R (suc s) (symbols_of p points) i
    locator-next i g =
        rw (
          factor-is,
          product-low R (lin R (symbol p a)) (from p mended 32) e i (λ j k. mended-high j (omega arith)),
          prod-suc (Series R) s (λ r. lin R (symbols_of p points r)),
        )
        (ap (λ (f : Seq R). f i) (mul_comm (series Φ.ring) (lin R (symbol p a)) e))

    pub interpolated-next : {after : List ℕ} → Product p (neg_byte p a ∷ 1 ∷ []) 32 32 mended after → Interpolated p points word (s + 1) after
    interpolated-next {after} m =
        rw add-one
        (record {
          long = m.kept.long ∙ length-subtracted p (correction_of p a b work) 0 32 work 32 ∙ t.long;
          h = h';
          through = through-next Φ s (symbols_of p points) (symbols_of p word) t.h C t.through mends;
          low = λ i g. m.kept.same i (inl g) ∙ mended-low i g;
          high = λ i g. m.product i g ∙ ap (λ (x : Element p). x.byte) (locator-next i g);
        })
