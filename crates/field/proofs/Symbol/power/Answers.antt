-- `field::Symbol::power` meets its contract. The loop's invariant: the result times the base to the power of the bits that are left is what is
-- wanted.
use mathlib.Core.Path.{◌≡◌, sym, ap, ◌∙◌}
use Prim.Native.Nat.{ℕ, ◌/◌, ◌%◌, ◌^◌, ◌<◌}
use native.Mathlib.Nat.{div-one}
use native.Mathlib.Omega.{arith}
use Rattle.std.proofs.lemmas.Nat.{shr-shr}
use Rattle.field.specs.Field.{RingLaws, pow}
use Rattle.field.specs.Symbols.{symbol, symbols, product_of}
use Rattle.field.specs.Operations.{Listed, times_bytes, pow_byte}
use Rattle.field.proofs.RingLaws.{mul_assoc, mul-one, one-mul}
use Rattle.field.proofs.Sums.{pow-zero, pow_halved}
use Rattle.field.proofs.SymbolLaws.{byte-is, symbols-field}
use Rattle.field.proofs.OperationLaws.{symbol-times_bytes, symbol-pow_byte, times_bytes-below, pow_byte-below}
use Rattle.field.proofs.Symbol.power.Invariants.{times_power}
use Rattle.field.proofs.Symbol.power.Goals as goal

module _ {p : ℕ} (l : Listed p) where
  abbrev laws : RingLaws (symbols p).ring
  laws = (symbols-field p l).ring

  power-first : (b n : ℕ) → times_power p 1 b n ≡ pow (symbols p).ring (symbol p b) n
  power-first b n = one-mul laws (pow (symbols p).ring (symbol p b) n)

  -- what the last bit asks for goes into the result, and the base is squared
  power-next : (r b n : ℕ) {f r' b' : ℕ} → f ≡ pow_byte p b (n % 2) → r' ≡ times_bytes p r f → b' ≡ times_bytes p b b
      → times_power p r' b' (n / 2) ≡ times_power p r b n
  power-next r b n e g h =
      rw (g, h, e, symbol-times_bytes p r (pow_byte p b (n % 2)), symbol-times_bytes p b b, symbol-pow_byte p b (n % 2))
      (mul_assoc laws (symbol p r) _ _ ∙ ap (product_of p (symbol p r)) (pow_halved laws (symbol p b) n))

  power-last : (r b a n : ℕ) → r < p → times_power p r b 0 ≡ pow (symbols p).ring (symbol p a) n → r ≡ pow_byte p a n
  unfolding pow_byte
  power-last r b a n h e =
      byte-is p _ h (sym (mul-one laws (symbol p r)) ∙ ap (product_of p (symbol p r)) (sym (pow-zero (symbols p).ring (symbol p b))) ∙ e)

pub loop-bit-init : goal.loop-bit-init
loop-bit-init c =
    let o = c.requires.operand in
    (omega (arith, o.size), o.below, rw (div-one c.args.exponent) (power-first o.size c.args.self.value c.args.exponent))

pub product-result-requires : goal.product-result-requires
product-result-requires c =
    let z = c.requires.operand.size in
    record { size = z; left = c.loop-bit.invariant.0; right = rw c.factor-factor.ensures (pow_byte-below z _ _) }

pub loop-bit-preserved : goal.loop-bit-preserved
loop-bit-preserved c =
    let v = c.loop-bit in
    let z = c.requires.operand.size in (
      rw c.product-result.ensures (times_bytes-below z _ _),
      rw c.product-base.ensures (times_bytes-below z _ _),
      rw (← shr-shr c.args.exponent v.bit 1)
          (power-next z v.result.value v.base.value _ c.factor-factor.ensures c.product-result.ensures c.product-base.ensures)
          ∙ v.invariant.2,
    )

pub returns : goal.returns
returns c =
    let v = c.loop-bit in
    let end : v.bit ≡ 5 = omega arith in
    let none : c.args.exponent / 2 ^ 5 ≡ 0 = omega (arith, c.requires.exponent_bound) in
    power-last c.requires.operand.size v.result.value v.base.value c.args.self.value c.args.exponent v.invariant.0
    (rw (end, none) at v.invariant.2)
