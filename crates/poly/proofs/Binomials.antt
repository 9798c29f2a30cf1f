-- The coefficients of f (x + a), by binomials.
use mathlib.Core.Path.{◌≡◌, refl, sym, ap, ap₂, ◌∙◌}
use Prim.Native.Nat.{ℕ, zero, suc, ◌+◌, ◌-◌, ◌<◌}
use native.Mathlib.Decide.{dec_lt}
use native.Mathlib.Nat.{suc-sub-suc, sub-zero}
use native.Mathlib.Omega.{arith}
use Rattle.field.specs.Field.{Ring, RingLaws, pow, multiple, sum}
use Rattle.field.proofs.RingLaws.{zero-add, one-mul, mul_assoc, multiple-one, multiple-add, multiple-scale}
use Rattle.field.proofs.Sums.{pow-zero, pow-suc, sum-zero, sum-front, sum_cong, sum-add, sum-mul}
use Rattle.poly.specs.Polynomials.{Seq, tail, binomial}
use Rattle.poly.proofs.Series.{zero_s-at}
use Rattle.poly.proofs.Shift.{shift, shift-zero, shift-at-zero, shift-at-suc}

binomial-zero : (n : ℕ) → binomial n zero ≡ 1
unfolding binomial
binomial-zero zero = refl
binomial-zero (suc n) = refl

binomial-suc : (n i : ℕ) → binomial (suc n) (suc i) ≡ binomial n i + binomial n (suc i)
unfolding binomial
binomial-suc n i = refl

binomial-above : (n i : ℕ) → n < i → binomial n i ≡ 0
unfolding binomial
binomial-above n zero l = absurd (omega arith)
binomial-above zero (suc i) l = refl
binomial-above (suc n) (suc i) l = let p = binomial-above n i (omega arith) in let q = binomial-above n (suc i) (omega arith) in omega arith

module _ (R : Ring) where
  -- what the r-th coefficient of f contributes to that of x^i in f (x + a)
  abbrev pub part : R.Car → ℕ → Seq R → ℕ → R.Car
  part a i f r = multiple R (binomial r i) (R.times (pow R a (r - i)) (f r))

module _ {R : Ring} (L : RingLaws R) where
  open R use {Car, 𝟘, 𝟙, plus as ◌⊕◌, times as ◌⊗◌, neg as ⊖◌}

  infixl 65 ◌⊕◌
  infixl 70 ◌⊗◌
  infix 75 ⊖◌
  part-zero : (a : Car) (f : Seq R) (r : ℕ) → part R a 0 f (suc r) ≡ a ⊗ part R a 0 (tail R f) r
  part-zero a f r =
      rw (binomial-zero (suc r), binomial-zero r, multiple-one, multiple-one, sub-zero (suc r), sub-zero r, pow-suc R a r)
      (mul_assoc L a (pow R a r) (f (suc r)))

  part-suc : (a : Car) (i : ℕ) (f : Seq R) (r : ℕ) → part R a (suc i) f (suc r) ≡ part R a i (tail R f) r ⊕ a ⊗ part R a (suc i) (tail R f) r
  part-suc a i f r =
      rw (binomial-suc r i, suc-sub-suc r i, multiple-add L (binomial r i) (binomial r (suc i)) (pow R a (r - i) ⊗ f (suc r)))
      (ap (λ (x : Car). part R a i (tail R f) r ⊕ x) (go (dec_lt i r) ∙ multiple-scale L (binomial r (suc i)) a (pow R a (r - suc i) ⊗ f (suc r))))
    where
      go : Dec (i < r) → multiple R (binomial r (suc i)) (pow R a (r - i) ⊗ f (suc r))
          ≡ multiple R (binomial r (suc i)) (a ⊗ (pow R a (r - suc i) ⊗ f (suc r)))
      go (yes l) =
          let e : r - i ≡ suc (r - suc i) = omega arith in
          ap (multiple R (binomial r (suc i))) (rw (e, pow-suc R a (r - suc i)) (mul_assoc L a (pow R a (r - suc i)) (f (suc r))))
      go (no l) = rw (binomial-above r (suc i) (omega arith))

  pub shift-binomial : (a : Car) (N : ℕ) (f : Seq R) (i : ℕ) → shift R a N f i ≡ sum R N (part R a i f)
  shift-binomial a zero f i = rw (shift-zero R a f, sum-zero R (part R a i f)) (zero_s-at R i)
  shift-binomial a (suc N) f zero =
      shift-at-zero L a N f
      ∙ ap₂ ◌⊕◌ start (ap (λ (x : Car). a ⊗ x) (shift-binomial a N (tail R f) 0) ∙ sym (sum-mul L a N (part R a 0 (tail R f)))
      ∙ sum_cong L N (λ r. a ⊗ part R a 0 (tail R f) r) (λ r. part R a 0 f (suc r)) (λ r l. sym (part-zero a f r)))
      ∙ sym (sum-front L N (part R a 0 f))
    where
      start : f 0 ≡ part R a 0 f 0
      start = sym (rw (binomial-zero 0, multiple-one, sub-zero 0, pow-zero R a) (one-mul L (f 0)))
  shift-binomial a (suc N) f (suc i) =
      shift-at-suc L a N f i
      ∙ ap₂ (λ (x y : Car). x ⊕ a ⊗ y) (shift-binomial a N (tail R f) i) (shift-binomial a N (tail R f) (suc i))
      ∙ ap (λ (x : Car). sum R N (part R a i (tail R f)) ⊕ x) (sym (sum-mul L a N (part R a (suc i) (tail R f))))
      ∙ sym (sum-add L N (part R a i (tail R f)) (λ r. a ⊗ part R a (suc i) (tail R f) r))
      ∙ sum_cong L N (λ r. part R a i (tail R f) r ⊕ a ⊗ part R a (suc i) (tail R f) r) (λ r. part R a (suc i) f (suc r))
      (λ r l. sym (part-suc a i f r))
      ∙ sym (zero-add L (sum R N (λ r. part R a (suc i) f (suc r))))
      ∙ ap (λ (x : Car). x ⊕ sum R N (λ r. part R a (suc i) f (suc r))) start
      ∙ sym (sum-front L N (part R a (suc i) f))
    where
      start : 𝟘 ≡ part R a (suc i) f 0
      start = sym (rw (binomial-above 0 (suc i) (omega arith)))
