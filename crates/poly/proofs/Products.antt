-- A product in lent bytes: a coefficient as the sum of its terms, and the bytes while the product goes in from the highest power down.
use mathlib.Core.Path.{◌≡◌, ap, ◌∙◌}
use mathlib.Core.Logic.{inl, inr, ⊎_elim}
use mathlib.Core.List.{List}
use Prim.Native.Nat.{ℕ, zero, suc, ◌+◌, ◌-◌, ◌≤◌, ◌<◌, min}
use native.Mathlib.Decide.{ℕ_discrete}
use native.Mathlib.Omega.{arith}
use lib.ListN.{length, get_or, set, length-set, get_or-eq_default}
use lib.Seq.{get_or-set_same, get_or-set_other}
use Rattle.field.specs.Field.{Ring, RingLaws, sum}
use Rattle.field.specs.Kernels.{convolution}
use Rattle.field.specs.Symbols.{Element, symbol, symbols, product_of, symbols_of}
use Rattle.field.specs.Operations.{Listed}
use Rattle.field.proofs.RingLaws.{add-zero, zero-mul}
use Rattle.field.proofs.Sums.{sum_cong, sum_split, sum-null}
use Rattle.field.proofs.SymbolLaws.{symbols-field}
use Rattle.poly.specs.Polynomials.{Seq, tail, mul_s}
use Rattle.poly.specs.Buffers.{from, product_from, Kept}
use Rattle.poly.proofs.Series.{mul_s-zero, mul_s-suc, mul_s-sum}

-- a coefficient of a product depends on no higher ones
pub product-low : (R : Ring) (f g h : Seq R) (n : ℕ) → ((j : ℕ) → j ≤ n → g j ≡ h j) → mul_s R f g n ≡ mul_s R f h n
product-low R f g h zero e = rw (mul_s-zero R f g, mul_s-zero R f h, e zero (omega arith))
product-low R f g h (suc n) e =
    rw (mul_s-suc R f g n, mul_s-suc R f h n, e (suc n) (omega arith), product-low R (tail R f) g h n (λ j l. e j (omega arith)))

-- the coefficient of x^e of the product is a convolution: its terms from the end of f on are zero
module _ {p : ℕ} (l : Listed p) (f : List ℕ) (xs : List ℕ) (at e : ℕ) where
  abbrev L : RingLaws (symbols p).ring
  L = (symbols-field p l).ring

  abbrev term : ℕ → Element p
  term i = product_of p (symbols_of p f i) (from p xs at (e - i))

  term-past : (i : ℕ) → length f ≤ i → term i ≡ symbol p 0
  term-past i h = rw (get_or-eq_default f 0 h) (zero-mul L (from p xs at (e - i)))

  pub product-convolution : {i : ℕ} → i ≡ min (length f) (e + 1) → convolution p (at + e) i f xs ≡ product_from p f xs at e
  product-convolution {i} is =
      let rest = suc e - i in
      let h : suc e ≡ i + rest = omega arith in
      let past : sum (symbols p).ring rest (λ j. term (i + j)) ≡ symbol p 0 =
      sum-null L rest (λ j. term (i + j)) (λ j k. term-past (i + j) (omega arith)) in
      let same : convolution p (at + e) i f xs ≡ sum (symbols p).ring i term =
      sum_cong L i (λ j. product_of p (symbols_of p f j) (symbols_of p xs (at + e - j))) term
      (λ j k. ap (λ q. product_of p (symbols_of p f j) (symbols_of p xs q)) (omega arith)) in
      same ∙ rw (mul_s-sum L (symbols_of p f) (from p xs at) e, h, sum_split L i rest term, past, add-zero L (sum (symbols p).ring i term))

-- the coefficients from x^i on are in place, and the rest is as it was
pub record Multiplied (p : ℕ) (f : List ℕ) (at len i : ℕ) (before after : List ℕ) : Type 0 where
  pub kept : Kept (at + i) (len - i) before after
  pub product : (q : ℕ) → i ≤ q → q < len → get_or after (at + q) 0 ≡ (product_from p f before at q).byte

module _ {p : ℕ} {f : List ℕ} {at len i : ℕ} {before after : List ℕ} (m : Multiplied p f at len i before after) where
  pub multiplied-low : (q : ℕ) → q < i → get_or after (at + q) 0 ≡ get_or before (at + q) 0
  multiplied-low q h = m.kept.same (at + q) (inl (omega arith))

  pub multiplied-more : {v : ℕ} → 0 < i → i ≤ len → at + len ≤ length before → v ≡ (product_from p f after at (i - 1)).byte
      → Multiplied p f at len (i - 1) before (set after (at + (i - 1)) v)
  multiplied-more {v} some within room e =
      record {
        kept =
            record {
              long = length-set after (at + (i - 1)) v ∙ m.kept.long;
              same =
                  λ q o. get_or-set_other after (at + (i - 1)) q v 0 (λ z. ⊎_elim (λ a. omega arith) (λ a. omega arith) o)
                  ∙ m.kept.same q (⊎_elim (λ a. inl (omega arith)) (λ a. inr (omega arith)) o);
            };
        product = λ q h l. go q h l (ℕ_discrete q (i - 1));
      }
    where
      same : product_from p f after at (i - 1) ≡ product_from p f before at (i - 1)
      same = product-low (symbols p).ring (symbols_of p f) (from p after at) (from p before at) (i - 1)
          (λ j l. ap (symbol p) (multiplied-low j (omega arith)))

      go : (q : ℕ) → i - 1 ≤ q → q < len → Dec (q ≡ i - 1) → get_or (set after (at + (i - 1)) v) (at + q) 0 ≡ (product_from p f before at q).byte
      go q h l (yes d) = rw (d, get_or-set_same after (at + (i - 1)) v 0 (let g = m.kept.long in omega arith), e, same)
      go q h l (no d) = get_or-set_other after (at + (i - 1)) (at + q) v 0 (λ z. omega arith) ∙ m.product q (omega arith) l
