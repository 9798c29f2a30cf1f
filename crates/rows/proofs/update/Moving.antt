-- One run over the bytes of a row takes off c x^d times the curve that stands elsewhere: x^d moves what stands in a slot no further than
-- its end, as no term of the result weighs more than the width.
use mathlib.Core.Path.{◌≡◌, sym, ap, ◌∙◌}
use mathlib.Core.Logic.{◌⊎◌, inl, inr}
use mathlib.Core.List.{List}
use Prim.Native.Nat.{ℕ, zero, suc, ◌+◌, ◌-◌, ◌*◌, ◌≤◌, ◌<◌}
use native.Mathlib.Nat.{suc-mul}
use native.Mathlib.Decide.{dec_le}
use native.Mathlib.Omega.{arith}
use lib.ListN.{length, get_or}
use Rattle.field.specs.Field.{RingLaws}
use Rattle.field.specs.Symbols.{symbol, symbols, sum_of, product_of, negative_of}
use Rattle.field.specs.Kernels.{subtracted}
use Rattle.field.specs.Operations.{Listed}
use Rattle.field.proofs.RingLaws.{add-zero, mul-zero, neg-zero}
use Rattle.field.proofs.SymbolLaws.{symbols-field}
use Rattle.field.proofs.KernelLaws.{subtracted-outside, subtracted-symbol}
use Rattle.poly.proofs.Monomials.{delay, delay-at, delay-null}
use Rattle.curves.specs.Curves.{Curve}
use Rattle.rows.specs.Bytes.{slot, curve_bytes}
use Rattle.rows.specs.declared.Shape.{Shape}
use Rattle.rows.proofs.Placing.{slot-inside}

-- the curve Q stands in the bytes from `at` on
abbrev pub Stands : (S : Shape) → List ℕ → ℕ → Curve (symbols S.p).ring → Type 0
Stands S xs at Q = (j e : ℕ) → j ≤ S.l → e ≤ S.width → symbol S.p (get_or xs (at + j * slot S + e) 0) ≡ Q j e

-- no term of Q weighs more than v
abbrev pub Light : (S : Shape) → ℕ → Curve (symbols S.p).ring → Type 0
Light S v Q = (j e : ℕ) → v < e + S.u * j → Q j e ≡ symbol S.p 0

module _ (S : Shape) (xs : List ℕ) (at v d : ℕ) (Q : Curve (symbols S.p).ring) (stands : Stands S xs at Q) (light : Light S v Q)
    (fits : d + v ≤ S.width) where
  -- d bytes before the coefficient of x^e y^j stands that of x^d Q
  moved : (j e : ℕ) → j ≤ S.l → e ≤ S.width → d ≤ j * slot S + e
      → symbol S.p (get_or xs (at + (j * slot S + e - d)) 0) ≡ delay (symbols S.p).ring d (Q j) e
  moved j e h k m = go (dec_le d e)
    where
      below : (j : ℕ) → j ≤ S.l → d ≤ j * slot S + e → e < d → symbol S.p (get_or xs (at + (j * slot S + e - d)) 0) ≡ symbol S.p 0
      below zero h m l = absurd (omega arith)
      below (suc i) h m l =
          let a = suc-mul i (slot S) in
          let f : ℕ = slot S + e - d in
          let q : at + (suc i * slot S + e - d) ≡ at + i * slot S + f = omega arith in
          rw q (stands i f (omega arith) (omega arith) ∙ light i f (omega arith))

      go : Dec (d ≤ e) → symbol S.p (get_or xs (at + (j * slot S + e - d)) 0) ≡ delay (symbols S.p).ring d (Q j) e
      go (yes l) =
          let q : at + (j * slot S + e - d) ≡ at + j * slot S + (e - d) = omega arith in
          let i : e ≡ d + (e - d) = omega arith in
          rw q (stands j (e - d) h (omega arith))
          ∙ sym (ap (delay (symbols S.p).ring d (Q j)) i ∙ delay-at (symbols S.p).ring d (e - d) (Q j))
      go (no l) = below j h m (omega arith) ∙ sym (delay-null (symbols S.p).ring d e (Q j) (λ x y. absurd (omega arith)))

  -- the run that takes c x^d Q off the bytes from `row` on
  module _ (listed : Listed S.p) (c row : ℕ) (room : row + curve_bytes S ≤ length xs) where
    abbrev after : List ℕ
    after = subtracted S.p c (row + d) at (curve_bytes S - d) xs

    pub subtracted-curve : (j e : ℕ) → j ≤ S.l → e ≤ S.width
        → symbol S.p (get_or after (row + j * slot S + e) 0)
        ≡ sum_of S.p (symbol S.p (get_or xs (row + j * slot S + e) 0))
        (negative_of S.p (product_of S.p (symbol S.p c) (delay (symbols S.p).ring d (Q j) e)))
    subtracted-curve j e h k = go (dec_le d (j * slot S + e))
      where
        L : RingLaws (symbols S.p).ring
        L = (symbols-field S.p listed).ring

        inside : j * slot S + e < curve_bytes S
        inside = slot-inside S h k

        go : Dec (d ≤ j * slot S + e) → symbol S.p (get_or after (row + j * slot S + e) 0)
            ≡ sum_of S.p (symbol S.p (get_or xs (row + j * slot S + e) 0))
            (negative_of S.p (product_of S.p (symbol S.p c) (delay (symbols S.p).ring d (Q j) e)))
        go (yes l) =
            let i : ℕ = j * slot S + e - d in
            let q : row + j * slot S + e ≡ row + d + i = omega arith in
            rw (q, ← moved j e h k l)
            (subtracted-symbol S.p c (row + d) at xs (curve_bytes S - d) i (omega (arith, inside)) (omega (arith, inside)))
        go (no l) =
            rw (delay-null (symbols S.p).ring d e (Q j) (λ x y. absurd (omega arith)), mul-zero L (symbol S.p c), neg-zero L, add-zero L)
            (ap (symbol S.p) (subtracted-outside S.p c (row + d) at xs (curve_bytes S - d) (row + j * slot S + e) (inl (omega arith))))

-- what is outside row r stays
pub subtracted_elsewhere : (S : Shape) (c from r d : ℕ) (xs : List ℕ) → d ≤ S.width → (q : ℕ)
    → (q < r * curve_bytes S) ⊎ (r * curve_bytes S + curve_bytes S ≤ q)
    → get_or (subtracted S.p c (r * curve_bytes S + d) from (curve_bytes S - d) xs) q 0 ≡ get_or xs q 0
subtracted_elsewhere S c from r d xs h q o = subtracted-outside S.p c (r * curve_bytes S + d) from xs (curve_bytes S - d) q (away o)
  where
    away : (q < r * curve_bytes S) ⊎ (r * curve_bytes S + curve_bytes S ≤ q)
        → (q < r * curve_bytes S + d) ⊎ (r * curve_bytes S + d + (curve_bytes S - d) ≤ q)
    away (inl a) = inl (omega arith)
    away (inr a) = let b = slot-inside S {j = zero} {e = S.width} (omega arith) (omega arith) in inr (omega arith)
