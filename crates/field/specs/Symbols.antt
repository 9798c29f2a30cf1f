-- The fields: the numbers below p, one byte each, with sums and products modulo p; at 16 with those of bit polynomials. Rules: section 2.
--   or a b              one of the two; among list p  p is among the numbers of a list
--   primes              the odd primes below 32; sizes  the field sizes: these, and 16
--   listed p            whether p is a field size
--   Element p           a symbol, that is, a number that is its own remainder modulo p
--   symbol p n          the symbol of a number; same-byte  symbols of one byte are one symbol
--   select test a b     a where the test passes, else b; find n test  the largest number below n that passes the test, or 0
--   plus_number p a b, times_number p a b, negative_number p a  the operations on numbers; here alone the field of 16 is told from the others
--   sum_of, product_of, negative_of  the operations: those on numbers, and then the remainder modulo p
--   inverse_of          the symbol of inverse_number p a, the number below p whose product with a leaves 1, or 0 if there is none
--   same_symbol         whether two symbols are the same
--   symbols p           the symbols with their operations; a field where p is listed (proofs/SymbolLaws.antt)
--   symbols_of p xs     the symbols of bytes, by their places; zero past the end
use Rattle.std.specs.Prelude.{◌≡◌, Bool, true, false, List, [], ◌∷◌, ℕ, zero, suc, ◌+◌, ◌-◌, ◌*◌, ◌%◌, eqb, get_or}
use Rattle.std.proofs.Common.{ap}
use mathlib.Core.HLevel.{Σ_prop_path, hedberg}
use Rattle.std.proofs.Math.Nat.{mod-mod}
use Rattle.std.proofs.Math.Decide.{ℕ_discrete}
use Rattle.std.specs.Int.Bits.{bit_xor}
use Rattle.field.specs.Field.{Field}
use Rattle.field.specs.BitPolynomials.{bit_product, bit_remainder}

abbrev pub or : Bool → Bool → Bool
or true b = true
or false b = b

abbrev pub among : List ℕ → ℕ → Bool
among [] p = false
among (k ∷ ks) p = or (eqb p k) (among ks p)

abbrev pub primes : List ℕ
primes = 3 ∷ 5 ∷ 7 ∷ 11 ∷ 13 ∷ 17 ∷ 19 ∷ 23 ∷ 29 ∷ 31 ∷ []

abbrev pub sizes : List ℕ
sizes = 16 ∷ primes

unfoldable pub listed : ℕ → Bool
listed = among sizes

pub record Element (p : ℕ) : Type 0 where
  pub byte : ℕ
  pub own : byte % p ≡ byte

unfoldable pub symbol : (p n : ℕ) → Element p
symbol p n = record { byte = n % p; own = mod-mod n p }

pub same-byte : (p : ℕ) {a b : Element p} → a.byte ≡ b.byte → a ≡ b
same-byte p {a} {b} e =
    ap (λ (u : (n : ℕ) × (n % p ≡ n)). record { byte = u.0; own = u.1 })
    (Σ_prop_path (λ n. hedberg ℕ_discrete (n % p) n) {u = (a.byte, a.own)} {v = (b.byte, b.own)} e)

abbrev pub select : Bool → ℕ → ℕ → ℕ
select true a b = a
select false a b = b

abbrev pub find : ℕ → (ℕ → Bool) → ℕ
find zero t = 0
find (suc n) t = let r = find n t in select (t n) n r

abbrev pub plus_number : ℕ → ℕ → ℕ → ℕ
plus_number p a b = select (eqb p 16) (bit_xor a b) (a + b)

abbrev pub times_number : ℕ → ℕ → ℕ → ℕ
times_number p a b = select (eqb p 16) (bit_remainder (bit_product a b)) (a * b)

abbrev pub negative_number : ℕ → ℕ → ℕ
negative_number p a = select (eqb p 16) a (p - a)

abbrev pub inverse_number : ℕ → ℕ → ℕ
inverse_number p a = find p (λ y. eqb (times_number p a y % p) 1)

module _ (p : ℕ) where
  unfoldable pub sum_of : Element p → Element p → Element p
  sum_of a b = symbol p (plus_number p a.byte b.byte)

  unfoldable pub product_of : Element p → Element p → Element p
  product_of a b = symbol p (times_number p a.byte b.byte)

  unfoldable pub negative_of : Element p → Element p
  negative_of a = symbol p (negative_number p a.byte)

  unfoldable pub inverse_of : Element p → Element p
  inverse_of a = symbol p (inverse_number p a.byte)

  unfoldable pub same_symbol : Discrete (Element p)
  same_symbol a b = go (ℕ_discrete a.byte b.byte)
    where
      go : Dec (a.byte ≡ b.byte) → Dec (a ≡ b)
      go (yes e) = yes (same-byte p e)
      go (no n) = no (λ e. n (ap (λ (x : Element p). x.byte) e))

  abbrev pub symbols : Field
  symbols =
      record {
        ring = record { Car = Element p; 𝟘 = symbol p 0; 𝟙 = symbol p 1; plus = sum_of; times = product_of; neg = negative_of };
        inv = inverse_of;
        same? = same_symbol;
      }

  abbrev pub symbols_of : List ℕ → ℕ → Element p
  symbols_of xs = λ i. symbol p (get_or xs i 0)
