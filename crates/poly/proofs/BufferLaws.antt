-- Bytes and the polynomials that they stand for; parts of a buffer, and what is kept outside of one.
use mathlib.Core.Path.{◌≡◌, sym, ap, fun_ext, refl, ◌∙◌}
use mathlib.Core.Logic.{inl, inr, ⊎_elim}
use mathlib.Core.List.{List, [], ◌∷◌, ◌++◌}
use Prim.Native.Nat.{ℕ, suc, ◌+◌, ◌-◌, ◌≤◌, ◌<◌}
use native.Mathlib.Nat.{zero-add, add-zero}
use native.Mathlib.Decide.{dec_lt}
use native.Mathlib.Omega.{arith}
use lib.ListN.{length, get_or, take, drop, length-take, length-drop, get_or-eq_default}
use lib.Seq.{take_all, get_or-take, get_or-drop, ext_get_or}
use Rattle.std.proofs.lemmas.List.{length_push, take_more, same_from_push}
use Rattle.field.specs.Symbols.{Element, symbol, symbols, symbols_of}
use Rattle.field.specs.Kernels.{Region}
use Rattle.field.specs.Operations.{plus_bytes, times_bytes, Listed}
use Rattle.field.proofs.SymbolLaws.{symbol-byte, zero-byte, byte-below}
use Rattle.field.proofs.OperationLaws.{symbol-times_bytes}
use Rattle.poly.specs.Polynomials.{Seq, tail, Below, value}
use Rattle.poly.specs.Buffers.{AllBelow, Factors, Kept}
use Rattle.poly.specs.Lent.{Untouched, Zeroed}

module _ (p : ℕ) (xs : List ℕ) where
  -- the bytes of xs are the coefficients of f
  pub symbols-are : (f : Seq (symbols p).ring) → Below (symbols p).ring (length xs) f → ((i : ℕ) → i < length xs → get_or xs i 0 ≡ (f i).byte)
      → symbols_of p xs ≡ f
  symbols-are f short is = fun_ext (λ i. go i (dec_lt i (length xs)))
    where
      go : (i : ℕ) → Dec (i < length xs) → symbol p (get_or xs i 0) ≡ f i
      go i (yes l) = rw (is i l) (symbol-byte p (f i))
      go i (no l) = rw (get_or-eq_default xs 0 {n = i} (omega arith)) (sym (short i (omega arith)))

-- parts of a buffer
module _ (n : ℕ) (xs : List ℕ) where
  pub below-take : {p : ℕ} → AllBelow p xs → AllBelow p (take n xs)
  below-take b i h = let l = length-take n xs in rw (get_or-take n xs i 0 (omega arith)) (b i (omega arith))

  pub below-drop : {p : ℕ} → AllBelow p xs → AllBelow p (drop n xs)
  below-drop b i h = let l = length-drop n xs in rw (get_or-drop n xs i 0) (b (n + i) (omega arith))

  pub take-rest : take (length xs - n) (drop n xs) ≡ drop n xs
  take-rest = take_all (length xs - n) (drop n xs) (let l = length-drop n xs in omega arith)

-- xs and then x are the first of ys
pub taken-last : (xs ys : List ℕ) (x : ℕ) → xs ++ x ∷ [] ≡ take (length (xs ++ x ∷ [])) ys
    → (length xs < length ys) × (xs ≡ take (length xs) ys) × (x ≡ get_or ys (length xs) 0)
taken-last xs ys x e =
    let inside : length xs < length ys = omega (arith, length_push xs x, ap length e, length-take (length (xs ++ x ∷ [])) ys) in
    let same : xs ++ x ∷ [] ≡ take (length xs) ys ++ get_or ys (length xs) 0 ∷ [] =
    e ∙ ap (λ n. take n ys) (length_push xs x) ∙ take_more ys (length xs) 0 inside in
    let (first, last) = same_from_push xs (take (length xs) ys) x (get_or ys (length xs) 0) same in
    (inside, first, last)

-- what is outside a region is kept
pub kept-none : (at len : ℕ) (xs : List ℕ) → Kept at len xs xs
kept-none at len xs = record { long = refl; same = λ q o. refl }

pub kept-then : {at len : ℕ} {xs ys zs : List ℕ} → Kept at len xs ys → Kept at len ys zs → Kept at len xs zs
kept-then a b = record { long = b.long ∙ a.long; same = λ q o. b.same q o ∙ a.same q o }

pub kept-wider : {at len : ℕ} (by : ℕ) {short : ℕ} {xs ys : List ℕ} → by + short ≤ len → Kept (at + by) short xs ys → Kept at len xs ys
kept-wider by h a = record { long = a.long; same = λ q o. a.same q (⊎_elim (λ l. inl (omega arith)) (λ l. inr (omega arith)) o) }

pub kept-longer : {at short len : ℕ} {xs ys : List ℕ} → short ≤ len → Kept at short xs ys → Kept at len xs ys
kept-longer h a = record { long = a.long; same = λ q o. a.same q (⊎_elim inl (λ l. inr (omega arith)) o) }

-- what is past the first bytes is kept
pub untouched-none : (size : ℕ) (xs : List ℕ) → Untouched size xs xs
untouched-none size xs = record { long = refl; same = λ q h. refl }

pub untouched-then : {size : ℕ} {xs ys zs : List ℕ} → Untouched size xs ys → Untouched size ys zs → Untouched size xs zs
untouched-then a b = record { long = b.long ∙ a.long; same = λ q h. b.same q h ∙ a.same q h }

-- and with the first bytes the list is fixed
pub untouched_unique : (size : ℕ) {before after also : List ℕ} → Untouched size before after → Untouched size before also
    → ((q : ℕ) → q < size → get_or after q 0 ≡ get_or also q 0) → after ≡ also
untouched_unique size {before} {after} {also} a b low = ext_get_or 0 after also (a.long ∙ sym b.long) (λ q h. go q (dec_lt q size))
  where
    go : (q : ℕ) → Dec (q < size) → get_or after q 0 ≡ get_or also q 0
    go q (yes h) = low q h
    go q (no h) = a.same q (omega arith) ∙ sym (b.same q (omega arith))

-- bytes that were worked in and then cleared, and that cleared bytes are fixed
pub zeroed-after : {size : ℕ} {xs ys zs : List ℕ} → Untouched size xs ys → Zeroed size ys zs → Zeroed size xs zs
zeroed-after u z = record { zeros = z.zeros; rest = untouched-then u z.rest }

pub zeroed_unique : {size : ℕ} {xs ys zs : List ℕ} → Zeroed size xs ys → Zeroed size xs zs → ys ≡ zs
zeroed_unique {size} a b = untouched_unique size a.rest b.rest (λ q h. a.zeros q h ∙ sym (b.zeros q h))

-- a part of a region
pub region-part : {p at len : ℕ} (by : ℕ) {short : ℕ} {xs : List ℕ} → by + short ≤ len → Region p at len xs → Region p (at + by) short xs
region-part {p} {at} by h r =
    let w = r.within in
    record { within = omega arith; below = λ i k. let e : at + by + i ≡ at + (by + i) = omega arith in rw e (r.below (by + i) (omega arith)) }

pub factors-part : {p : ℕ} {f : List ℕ} {at len : ℕ} (by : ℕ) {short : ℕ} {xs : List ℕ} → by + short ≤ len → Factors p f at len xs
    → Factors p f (at + by) short xs
factors-part by h a = record { size = a.size; factor = a.factor; short = omega (arith, a.short); region = region-part by h a.region }

-- symbols' bytes in a region
pub region-symbols : {p at len : ℕ} {xs ys : List ℕ} (f : Seq (symbols p).ring) → Listed p → Region p at len xs → Kept at len xs ys
    → ((i : ℕ) → i < len → get_or ys (at + i) 0 ≡ (f i).byte) → Region p at len ys
region-symbols f l r k is = record { within = rw k.long r.within; below = λ i h. rw (is i h) (byte-below l (f i)) }

-- Horner's rule, from the last coefficient on: the value of those from i on
module _ (p a n : ℕ) (f : Seq (symbols p).ring) where
  abbrev pub horner : ℕ → Element p
  horner i = value (symbols p).ring (symbol p a) (n - i) (λ j. f (i + j))

  pub horner-none : (horner n).byte ≡ 0
  unfolding value
  horner-none = let z : n - n ≡ 0 = omega arith in rw z (zero-byte p)

  pub horner-more : (b i : ℕ) → 0 < i → i ≤ n → symbol p b ≡ f (i - 1) → plus_bytes p b (times_bytes p a (horner i).byte) ≡ (horner (i - 1)).byte
  unfolding plus_bytes value
  horner-more b i some within e =
      let m : n - (i - 1) ≡ suc (n - i) = omega arith in
      let t : tail (symbols p).ring (λ j. f (i - 1 + j)) ≡ (λ j. f (i + j)) = fun_ext (λ j. ap f (omega arith)) in
      rw (m, t, plus_bytes, symbol-times_bytes, symbol-byte, e, add-zero)

  pub horner-all : horner 0 ≡ value (symbols p).ring (symbol p a) n f
  horner-all = let z : n - 0 ≡ n = omega arith in let t : ◌≡◌ {A = Seq (symbols p).ring} (λ j. f (0 + j)) f = fun_ext (λ j. ap f (zero-add j)) in
      rw (z, t)
