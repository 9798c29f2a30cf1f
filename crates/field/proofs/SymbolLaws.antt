-- The symbols of a listed p are a field, and `symbol` carries the code's arithmetic over to them.
use mathlib.Core.Path.{◌≡◌, refl, sym, ap, subst, ◌∙◌}
use mathlib.Core.Logic.{◌≢◌}
use mathlib.Core.Bool.{Bool, true, false}
use mathlib.Core.HLevel.{hedberg}
use Prim.Native.Nat.{ℕ, ◌+◌, ◌-◌, ◌*◌, ◌/◌, ◌%◌, ◌<◌}
use native.Mathlib.Nat.{add_assoc, add_comm, add-zero, mul_comm, mul_assoc, mul-one, mul-add, add-mul, mod-lt, mod-eq_of_lt, mod-add-mod}
use native.Mathlib.Nat.{add-mod-mod, mod_self, zero-mod, div-add-mod, mul-add-mod_self_left}
use native.Mathlib.Decide.{ℕ_discrete}
use native.Mathlib.Omega.{arith}
use borrow.Author.Tests.{ne_eqb}
use lib.Bits.{bit_xor}
use lib.Dec.{T, eqb, eqb→eq, ltb, ltb→lt}
use Rattle.field.specs.Field.{RingLaws, FieldLaws, pow}
use Rattle.field.specs.BitPolynomials.{bit_product, bit_remainder}
use Rattle.field.specs.Symbols.{or, sizes, listed, Element, symbol, same-byte, times_number, negative_number, inverse_number}
use Rattle.field.specs.Symbols.{sum_of, product_of, negative_of, inverse_of, same_symbol, symbols}
use Rattle.field.specs.Operations.{Listed}
use Rattle.field.proofs.FieldLaws.{cancel}
use Rattle.field.proofs.Tests.{all, all-at, all_in, all_in-at, or-right, equal-at, equal-at-two, equal-at-three}

-- remainders of products
pub mod-mul : (a b m : ℕ) → a % m * b % m ≡ a * b % m
mod-mul a b m =
    sym (ap (λ (x : ℕ). x * b % m) (sym (div-add-mod a m)) ∙ rw (add-mul, mul_assoc m) (mul-add-mod_self_left m (a / m * b) (a % m * b)))

pub mul-mod : (a b m : ℕ) → a * (b % m) % m ≡ a * b % m
mul-mod a b m = rw (mul_comm a (b % m), mod-mul b a m, mul_comm b a)

-- a test that passes at each of the sizes passes at any listed p
pub at-listed : (f : ℕ → Bool) → T (all_in sizes f) → (p : ℕ) → T (listed p) → T (f p)
unfolding listed
at-listed = all_in-at sizes

-- the test brings the bounds
pub is-listed : {p : ℕ} → listed p ≡ true → Listed p
is-listed {p} e =
    let t : T (listed p) = rw e tt in
    record {
      is = t;
      small = ltb→lt p 32 (at-listed (λ p. ltb p 32) tt p t);
      large = ltb→lt 2 p (at-listed (λ p. ltb 2 p) tt p t);
    }

-- a remainder by p is a byte
pub remainder-byte : {p : ℕ} (z : ℕ) → Listed p → z % p < 256
remainder-byte {p} z l = omega (arith, mod-lt z {m = p} (omega arith))

-- numbers to symbols and back
module _ (p : ℕ) where
  pub byte-symbol : (n : ℕ) → (symbol p n).byte ≡ n % p
  unfolding symbol
  byte-symbol n = refl

  pub symbol-byte : (a : Element p) → symbol p a.byte ≡ a
  symbol-byte a = same-byte p (byte-symbol a.byte ∙ a.own)

  pub symbol-own : {n : ℕ} → n < p → (symbol p n).byte ≡ n
  symbol-own {n} h = byte-symbol n ∙ mod-eq_of_lt h

  -- a number below p is the byte of its symbol
  pub byte-is : {n : ℕ} (a : Element p) → n < p → symbol p n ≡ a → n ≡ a.byte
  byte-is a h e = sym (symbol-own h) ∙ ap (λ (x : Element p). x.byte) e

  pub symbol_injective : {m n : ℕ} → m < p → n < p → symbol p m ≡ symbol p n → m ≡ n
  symbol_injective {n = n} h k e = byte-is (symbol p n) h e ∙ symbol-own k

  pub symbol-nonzero : {n : ℕ} → n < p → n ≢ 0 → symbol p n ≢ symbol p 0
  symbol-nonzero h z e = z (symbol_injective h (omega arith) e)

  ruleset mods = (byte-symbol, mod-add-mod, add-mod-mod, mod-mul, mul-mod)

  -- a symbol is zero exactly where its byte is
  pub zero-byte : (symbol p 0).byte ≡ 0
  zero-byte = byte-symbol 0 ∙ zero-mod p

  pub byte-zero : {a : Element p} → a ≡ symbol p 0 → a.byte ≡ 0
  byte-zero e = ap (λ (x : Element p). x.byte) e ∙ zero-byte

  pub zero-is : {a : Element p} → a.byte ≡ 0 → a ≡ symbol p 0
  zero-is e = same-byte p (e ∙ sym zero-byte)

  byte-less : 0 < p → (a : Element p) → a.byte < p
  byte-less some a = rw (← a.own) (mod-lt a.byte some)

  -- the fields modulo p
  module _ (other : p ≢ 16) where
    pub not-sixteen : eqb p 16 ≡ false
    not-sixteen = ne_eqb p 16 other

    pub symbol-plus : (a b : ℕ) → symbol p (a + b) ≡ sum_of p (symbol p a) (symbol p b)
    unfolding sum_of
    symbol-plus a b = rw not-sixteen (same-byte p (simp mods))

    pub symbol-times : (a b : ℕ) → symbol p (a * b) ≡ product_of p (symbol p a) (symbol p b)
    unfolding product_of
    symbol-times a b = rw not-sixteen (same-byte p (simp mods))

    pub symbol-opposite : {a : ℕ} → a < p → symbol p (p - a) ≡ negative_of p (symbol p a)
    unfolding negative_of
    symbol-opposite h = rw (not-sixteen, symbol-own h)

    sum_assoc : (a b c : Element p) → sum_of p (sum_of p a b) c ≡ sum_of p a (sum_of p b c)
    unfolding sum_of
    sum_assoc a b c = rw not-sixteen (same-byte p (simp (mods, add_assoc)))

    sum_comm : (a b : Element p) → sum_of p a b ≡ sum_of p b a
    unfolding sum_of
    sum_comm a b = rw not-sixteen (ap (symbol p) (add_comm a.byte b.byte))

    sum-zero : (a : Element p) → sum_of p a (symbol p 0) ≡ a
    unfolding sum_of
    sum-zero a = rw not-sixteen (same-byte p (simp (mods, add-zero) a.own))

    sum_negative : 0 < p → (a : Element p) → sum_of p a (negative_of p a) ≡ symbol p 0
    unfolding sum_of negative_of
    sum_negative some a =
        let h = byte-less some a in
        let e : a.byte + (p - a.byte) ≡ p = omega arith in
        rw not-sixteen (same-byte p (simp (mods, e, mod_self, zero-mod)))

    product_assoc : (a b c : Element p) → product_of p (product_of p a b) c ≡ product_of p a (product_of p b c)
    unfolding product_of
    product_assoc a b c = rw not-sixteen (same-byte p (simp (mods, mul_assoc)))

    product_comm : (a b : Element p) → product_of p a b ≡ product_of p b a
    unfolding product_of
    product_comm a b = rw not-sixteen (ap (symbol p) (mul_comm a.byte b.byte))

    product-one : (a : Element p) → product_of p a (symbol p 1) ≡ a
    unfolding product_of
    product-one a = rw not-sixteen (same-byte p (simp (mods, mul-one) a.own))

    product-sum : (a b c : Element p) → product_of p a (sum_of p b c) ≡ sum_of p (product_of p a b) (product_of p a c)
    unfolding product_of sum_of
    product-sum a b c = rw not-sixteen (same-byte p (simp (mods, mul-add)))

    modulo-ring : 0 < p → RingLaws (symbols p).ring
    modulo-ring some =
        record {
          is_set = hedberg (same_symbol p);
          plus_assoc = sum_assoc;
          plus_comm = sum_comm;
          plus_zero = sum-zero;
          plus_neg = sum_negative some;
          times_assoc = product_assoc;
          times_comm = product_comm;
          times_one = product-one;
          times_plus = product-sum;
        }

-- the field of 16: antt computes each law at all its numbers
module _ where
  below : (a : Element 16) → a.byte < 16
  below = byte-less 16 (omega arith)

  abbrev add : ℕ → ℕ → ℕ
  add a b = bit_xor a b % 16

  abbrev mul : ℕ → ℕ → ℕ
  mul a b = bit_remainder (bit_product a b) % 16

  sixteen-ring : RingLaws (symbols 16).ring
  unfolding sum_of product_of negative_of symbol bit_product bit_remainder
  sixteen-ring =
      record {
        is_set = hedberg (same_symbol 16);
        plus_assoc =
            λ a b c. same-byte 16 (equal-at-three 16 (λ x y z. add (add x y) z) (λ x y z. add x (add y z)) tt (below a) (below b) (below c));
        plus_comm = λ a b. same-byte 16 (equal-at-two 16 (λ x y. add x y) (λ x y. add y x) tt (below a) (below b));
        plus_zero = λ a. same-byte 16 (equal-at 16 (λ x. add x 0) (λ x. x) tt (below a));
        plus_neg = λ a. same-byte 16 (equal-at 16 (λ x. add x (negative_number 16 x % 16)) (λ x. 0) tt (below a));
        times_assoc =
            λ a b c. same-byte 16 (equal-at-three 16 (λ x y z. mul (mul x y) z) (λ x y z. mul x (mul y z)) tt (below a) (below b) (below c));
        times_comm = λ a b. same-byte 16 (equal-at-two 16 (λ x y. mul x y) (λ x y. mul y x) tt (below a) (below b));
        times_one = λ a. same-byte 16 (equal-at 16 (λ x. mul x 1) (λ x. x) tt (below a));
        times_plus =
            λ a b c. same-byte 16
            (equal-at-three 16 (λ x y z. mul x (add y z)) (λ x y z. add (mul x y) (mul x z)) tt (below a) (below b) (below c));
      }

pub symbols-ring : (p : ℕ) → 0 < p → RingLaws (symbols p).ring
symbols-ring p some = go (ℕ_discrete p 16)
  where
    go : Dec (p ≡ 16) → RingLaws (symbols p).ring
    go (yes e) = subst (λ q. RingLaws (symbols q).ring) (sym e) sixteen-ring
    go (no other) = modulo-ring p other some

-- each number below p but 0 has one whose product with it leaves 1
abbrev inverted : ℕ → ℕ → Bool
inverted p x = or (eqb x 0) (eqb (times_number p x (inverse_number p x % p) % p) 1)

invertible : (p : ℕ) → T (listed p) → T (all p (inverted p))
unfolding bit_product bit_remainder
invertible = at-listed (λ p. all p (inverted p)) tt

module _ {p : ℕ} (l : Listed p) where
  some : 0 < p
  some = omega (arith, l.large)

  pub byte-below : (a : Element p) → a.byte < p
  byte-below = byte-less p some

  pub byte-nonzero : (a : Element p) → a ≢ symbol p 0 → a.byte ≢ 0
  byte-nonzero a n e = n (zero-is p e)

  product-inverse : (a : Element p) → a ≢ symbol p 0 → product_of p a (inverse_of p a) ≡ symbol p 1
  unfolding product_of inverse_of
  product-inverse a n =
      same-byte p (simp byte-symbol (eqb→eq _ 1 test ∙ sym (mod-eq_of_lt (omega (arith, l.large)))))
    where
      test : T (eqb (times_number p a.byte (inverse_number p a.byte % p) % p) 1)
      test =
          or-right (eqb a.byte 0) _ (all-at p (inverted p) (invertible p l.is) a.byte (byte-below a))
          (λ z. byte-nonzero a n (eqb→eq a.byte 0 z))

  one≢zero : symbol p 1 ≢ symbol p 0
  one≢zero = symbol-nonzero p (omega (arith, l.large)) (λ e. omega arith)

  -- the inverse of 0 is given as 0
  pub inverse-zero : inverse_of p (symbol p 0) ≡ symbol p 0
  unfolding inverse_of symbol bit_product bit_remainder
  inverse-zero = zero-is p (eqb→eq _ 0 (at-listed (λ p. eqb (inverse_of p (symbol p 0)).byte 0) tt p l.is))

pub symbols-field : (p : ℕ) → Listed p → FieldLaws (symbols p)
symbols-field p l = record { ring = symbols-ring p (some l); inverse = product-inverse l; one≢zero = one≢zero l }

-- every nonzero symbol has exactly one inverse
pub exactly-one-inverse : (p : ℕ) → Listed p → (a : Element p) → a ≢ symbol p 0
    → (b : Element p) × (product_of p a b ≡ symbol p 1) × ((c : Element p) → product_of p a c ≡ symbol p 1 → c ≡ b)
exactly-one-inverse p l a n =
    let e = product-inverse l a n in
    (inverse_of p a, e, λ c d. cancel (symbols-field p l) a c (inverse_of p a) n (d ∙ sym e))

-- the power p - 2 of a symbol is its inverse: antt computes it at every symbol of every field of the list
power_inverts : ℕ → ℕ → Bool
power_inverts p x = eqb (pow (symbols p).ring (symbol p x) (p - 2)).byte (inverse_of p (symbol p x)).byte

powers_invert : (p : ℕ) → T (listed p) → T (all p (power_inverts p))
unfolding power_inverts pow product_of inverse_of symbol bit_product bit_remainder
powers_invert = at-listed (λ p. all p (power_inverts p)) tt

pub power-inverse : {p : ℕ} → Listed p → (a : Element p) → pow (symbols p).ring a (p - 2) ≡ inverse_of p a
unfolding power_inverts
power-inverse {p} l a =
    let test : T (power_inverts p a.byte) = all-at p (power_inverts p) (powers_invert p l.is) a.byte (byte-below l a) in
    same-byte p (rw (symbol-byte p a) at (eqb→eq (pow (symbols p).ring (symbol p a.byte) (p - 2)).byte _ test))
