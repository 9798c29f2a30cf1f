-- The quotient by p, of the numbers that are small enough, is a product with 65536/p + 1 and a shift by 16 bits.
use mathlib.Core.Path.{◌≡◌, sym, ap, ◌∙◌}
use Prim.Native.Nat.{ℕ, ◌+◌, ◌-◌, ◌*◌, ◌/◌, ◌%◌, ◌<◌, ◌≤◌}
use native.Mathlib.Nat.{mod-eq-sub-div-mul, div-add-mod, mod-lt, mul-le-mul, mul-add, add-mul, mul_assoc, mul_comm, mul-one}
use native.Mathlib.Omega.{arith}
use Rattle.field.specs.Operations.{Listed}
use Rattle.field.specs.Kernels.{Reduces, reducible}

-- with z = p q + r and 65536 = p d + s, what z (d+1) has above 65536 q is p q + r (d+1) - q s, and z < d keeps that below 65536
quotient-by-shift : {p : ℕ} (z : ℕ) → 0 < p → z < 65536 / p → z * (65536 / p + 1) / 65536 ≡ z / p
quotient-by-shift {p} z some h =
    parts (z / p) (z % p) (65536 / p) (65536 % p) (div-add-mod z p) (div-add-mod 65536 p) (mod-lt z some) (mod-lt 65536 some) h
  where
    parts : (q r d s : ℕ) → p * q + r ≡ z → p * d + s ≡ 65536 → r < p → s < p → z < d → z * (d + 1) / 65536 ≡ q
    parts q r d s e f u v w =
        let outer : z * (d + 1) ≡ z * d + z = mul-add z d 1 ∙ ap (λ x. z * d + x) (mul-one z) in
        let inner : z * d ≡ p * q * d + r * d = ap (λ x. x * d) (sym e) ∙ add-mul (p * q) r d in
        let turned : p * q * d ≡ q * (p * d) = ap (λ x. x * d) (mul_comm p q) ∙ mul_assoc q p d in
        let whole : q * (p * d) + q * s ≡ q * 65536 = sym (mul-add q (p * d) s) ∙ ap (λ x. q * x) f in
        let low : q * s ≤ q * p = mul-le-mul {n₁ = q} {m₁ = s} {n₂ = q} {m₂ = p} (omega arith) (omega arith) in
        let high : (r + 1) * d ≤ p * d = mul-le-mul {n₁ = r + 1} {m₁ = d} {n₂ = p} {m₂ = d} (omega arith) (omega arith) in
        omega (arith, outer, inner, turned, whole, low, mul_comm p q, high, add-mul r 1 d)

module _ {p : ℕ} (l : Listed p) where
  -- p is at most 31, and 65536/31 is 2114
  reducible-low : reducible ≤ 65536 / p
  reducible-low =
      let a = mul-le-mul {n₁ = p} {m₁ = 65536 / p} {n₂ = 31} {m₂ = 65536 / p} (omega (arith, l.small)) (omega arith) in
      let b = mod-lt 65536 {m = p} (omega (arith, l.large)) in
      omega (arith, a, b, l.small, div-add-mod 65536 p)

  pub quotient : (z : ℕ) → z < reducible → z * (65536 / p + 1) / 65536 ≡ z / p
  quotient z h = quotient-by-shift z (omega (arith, l.large)) (omega (arith, reducible-low))

  pub reciprocal-small : 65536 / p + 1 < 21848
  reciprocal-small =
      let a = mul-le-mul {n₁ = 3} {m₁ = 65536 / p} {n₂ = p} {m₂ = 65536 / p} (omega (arith, l.large)) (omega arith) in
      omega (arith, a, div-add-mod 65536 p)

module _ {p g z : ℕ} (r : Reduces p g z) where
  -- what is taken off z
  pub taken : {y h q : ℕ} → y ≡ z → h ≡ g → q ≡ p → y * h / 65536 * q ≡ z / p * p
  taken e f d = rw (e, f, d, r.reciprocal) (ap (λ x. x * p) (quotient r.size z r.low))

-- a product of two symbols is reducible, and a third may be added to it
pub small-product : (a b : ℕ) → a < 32 → b < 32 → a * b ≤ 961
small-product a b h k = mul-le-mul {n₁ = a} {m₁ = b} {n₂ = 31} {m₂ = 31} (omega arith) (omega arith)

pub reducible-product : (a b : ℕ) → a < 32 → b < 32 → a * b < reducible
reducible-product a b h k = omega (arith, small-product a b h k)

pub remainder : (z p : ℕ) → z - z / p * p ≡ z % p
remainder z p = sym (mod-eq-sub-div-mul z p)
