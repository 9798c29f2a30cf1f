-- What the rules say of the field of 16 (section 2): its sums, products, negatives and inverses, and that whole numbers count modulo 2.
use mathlib.Core.Path.{◌≡◌, refl, sym, ap, ap₂, ◌∙◌}
use Prim.Native.Nat.{ℕ, zero, suc, ◌%◌}
use native.Mathlib.Omega.{arith}
use lib.Bits.{bit_xor}
use Rattle.field.specs.Field.{Ring, RingLaws, multiple, pow}
use Rattle.field.specs.BitPolynomials.{bit_product, bit_remainder}
use Rattle.field.specs.Symbols.{listed, Element, same-byte, sum_of, product_of, negative_of, inverse_of, symbols}
use Rattle.field.specs.Operations.{Listed, plus_bytes, times_bytes, neg_byte}
use Rattle.field.proofs.RingLaws.{neg-add-left, mul_comm}
use Rattle.field.proofs.SymbolLaws.{is-listed, symbol-byte, byte-below, symbols-field, power-inverse}
use Rattle.field.proofs.OperationLaws.{plus_bits, times_bits, neg_bits}

pub sixteen : Listed 16
unfolding listed
sixteen = is-listed refl

pub sum_exclusive-or : (a b : Element 16) → (sum_of 16 a b).byte ≡ bit_xor a.byte b.byte
unfolding plus_bytes
sum_exclusive-or a b =
    ap₂ (λ (x y : Element 16). (sum_of 16 x y).byte) (sym (symbol-byte 16 a)) (sym (symbol-byte 16 b))
    ∙ plus_bits (byte-below sixteen a) (byte-below sixteen b)

pub product-remainder : (a b : Element 16) → (product_of 16 a b).byte ≡ bit_remainder (bit_product a.byte b.byte)
unfolding times_bytes
product-remainder a b =
    ap (λ (x : Element 16). x.byte) (mul_comm (symbols-field 16 sixteen).ring a b)
    ∙ ap₂ (λ (x y : Element 16). (product_of 16 x y).byte) (sym (symbol-byte 16 b)) (sym (symbol-byte 16 a))
    ∙ times_bits (byte-below sixteen b) (byte-below sixteen a)

pub minus-is-plus : (a : Element 16) → negative_of 16 a ≡ a
unfolding neg_byte
minus-is-plus a =
    same-byte 16 (ap (λ (x : Element 16). (negative_of 16 x).byte) (sym (symbol-byte 16 a)) ∙ neg_bits (byte-below sixteen a))

pub inverse-power_14 : (a : Element 16) → pow (symbols 16).ring a 14 ≡ inverse_of 16 a
inverse-power_14 = power-inverse sixteen

-- where minus is plus, a whole number of times is as often as its remainder by 2
module _ {R : Ring} (laws : RingLaws R) (same : (a : R.Car) → R.neg a ≡ a) where
  twice : (a b : R.Car) → R.plus a (R.plus a b) ≡ b
  twice a b = ap (λ x. R.plus x (R.plus a b)) (sym (same a)) ∙ neg-add-left laws a b

  multiple_modulo_2 : (k : ℕ) (x : R.Car) → multiple R k x ≡ multiple R (k % 2) x
  multiple_modulo_2 zero x = refl
  multiple_modulo_2 (suc zero) x = refl
  multiple_modulo_2 (suc (suc k)) x =
      let e : k % 2 ≡ suc (suc k) % 2 = omega arith in
      twice x (multiple R k x) ∙ multiple_modulo_2 k x ∙ ap (λ n. multiple R n x) e

-- so binomials count modulo 2
pub counts_modulo_2 : (k : ℕ) (x : Element 16) → multiple (symbols 16).ring k x ≡ multiple (symbols 16).ring (k % 2) x
counts_modulo_2 = multiple_modulo_2 (symbols-field 16 sixteen).ring minus-is-plus
