-- Coefficient sequences with the Cauchy product are a commutative ring.
-- Multiplying by head and tail, as `mul_s` does, makes associativity one induction.
use mathlib.Core.Path.{◌≡◌, refl, sym, ap, ◌∙◌, fun_ext}
use mathlib.Core.Logic.{◌≢◌}
use mathlib.Core.List.{List, [], ◌∷◌}
use mathlib.Core.HLevel.{→_set}
use Prim.Native.Nat.{ℕ, zero, suc, ◌+◌, ◌-◌, ◌<◌}
use native.Mathlib.Nat.{suc-sub-suc, sub-zero, add-sub_cancel_left}
use native.Mathlib.Omega.{arith}
use Rattle.field.specs.Field.{Ring, RingLaws, multiple, sum}
use Rattle.field.proofs.RingLaws.{add_assoc, add_comm, add-zero, add-neg, mul_assoc, mul_comm, one-mul, add-mul, zero-mul}
use Rattle.field.proofs.RingTactic.{ring, reading, At, Read, here, there, r_atom}
use Rattle.field.proofs.Sums.{sum-zero, sum-suc, sum-one, sum-front, sum-single}
use Rattle.poly.specs.Polynomials.{Seq, tail, zero_s, one_s, add_s, neg_s, scale_s, mul_s, Series}

-- the clauses, as equations to rewrite by
module _ (R : Ring) where
  open R use {Car, 𝟘, 𝟙, plus as ◌⊕◌, times as ◌⊗◌, neg as ⊖◌}

  infixl 65 ◌⊕◌
  infixl 70 ◌⊗◌
  infix 75 ⊖◌
  pub zero_s-at : (n : ℕ) → zero_s R n ≡ 𝟘
  unfolding zero_s
  zero_s-at n = refl

  pub add_s-at : (f g : Seq R) (n : ℕ) → add_s R f g n ≡ f n ⊕ g n
  unfolding add_s
  add_s-at f g n = refl

  pub neg_s-at : (f : Seq R) (n : ℕ) → neg_s R f n ≡ ⊖ (f n)
  unfolding neg_s
  neg_s-at f n = refl

  pub scale_s-at : (c : Car) (f : Seq R) (n : ℕ) → scale_s R c f n ≡ c ⊗ f n
  unfolding scale_s
  scale_s-at c f n = refl

  pub mul_s-zero : (f g : Seq R) → mul_s R f g zero ≡ f zero ⊗ g zero
  unfolding mul_s
  mul_s-zero f g = refl

  pub mul_s-suc : (f g : Seq R) (n : ℕ) → mul_s R f g (suc n) ≡ f zero ⊗ g (suc n) ⊕ mul_s R (tail R f) g n
  unfolding mul_s
  mul_s-suc f g n = refl

  pub tail-mul_s : (f g : Seq R) → tail R (mul_s R f g) ≡ add_s R (scale_s R (f zero) (tail R g)) (mul_s R (tail R f) g)
  unfolding add_s scale_s
  tail-mul_s f g = fun_ext (mul_s-suc f g)

module _ {R : Ring} (L : RingLaws R) where
  open R use {Car, 𝟘, 𝟙, plus as ◌⊕◌, times as ◌⊗◌, neg as ⊖◌}

  infixl 65 ◌⊕◌
  infixl 70 ◌⊗◌
  infix 75 ⊖◌
  -- the product, by its other end
  mul_s-suc-right : (f g : Seq R) (n : ℕ) → mul_s R f g (suc n) ≡ mul_s R f (tail R g) n ⊕ f (suc n) ⊗ g zero
  mul_s-suc-right f g zero = rw (mul_s-suc, mul_s-zero, mul_s-zero)
  mul_s-suc-right f g (suc n) = rw (mul_s-suc R f g (suc n), mul_s-suc-right (tail R f) g n, mul_s-suc R f (tail R g) n) (sym (add_assoc L _ _ _))

  mul_comm-at : (f g : Seq R) (n : ℕ) → mul_s R f g n ≡ mul_s R g f n
  mul_comm-at f g zero = rw (mul_s-zero R f g, mul_s-zero R g f) (mul_comm L _ _)
  mul_comm-at f g (suc n) =
      rw (mul_s-suc R f g n, mul_comm-at (tail R f) g n, mul_s-suc-right g f n)
      (ring L (f zero ∷ g (suc n) ∷ mul_s R g (tail R f) n ∷ []) (search reading depth 25) tt)

  add-mul-at : (f g h : Seq R) (n : ℕ) → mul_s R (add_s R f g) h n ≡ mul_s R f h n ⊕ mul_s R g h n
  unfolding add_s
  add-mul-at f g h zero = simp mul_s-zero (add-mul L _ _ _)
  add-mul-at f g h (suc n) =
      rw (mul_s-suc R (add_s R f g) h n, add-mul-at (tail R f) (tail R g) h n, mul_s-suc R f h n, mul_s-suc R g h n)
      (ring L (f zero ∷ g zero ∷ h (suc n) ∷ mul_s R (tail R f) h n ∷ mul_s R (tail R g) h n ∷ []) (search reading depth 25) tt)

  scale-mul-at : (c : Car) (f g : Seq R) (n : ℕ) → mul_s R (scale_s R c f) g n ≡ c ⊗ mul_s R f g n
  unfolding scale_s
  scale-mul-at c f g zero = simp mul_s-zero (mul_assoc L _ _ _)
  scale-mul-at c f g (suc n) =
      rw (mul_s-suc R (scale_s R c f) g n, scale-mul-at c (tail R f) g n, mul_s-suc R f g n)
      (ring L (c ∷ f zero ∷ g (suc n) ∷ mul_s R (tail R f) g n ∷ []) (search reading depth 25) tt)

  mul_assoc-at : (f g h : Seq R) (n : ℕ) → mul_s R (mul_s R f g) h n ≡ mul_s R f (mul_s R g h) n
  mul_assoc-at f g h zero = simp mul_s-zero (mul_assoc L _ _ _)
  mul_assoc-at f g h (suc n) =
      rw (
        mul_s-suc R (mul_s R f g) h n,
        tail-mul_s R f g,
        add-mul-at (scale_s R (f zero) (tail R g)) (mul_s R (tail R f) g) h n,
        scale-mul-at (f zero) (tail R g) h n,
        mul_assoc-at (tail R f) g h n,
        mul_s-suc R f (mul_s R g h) n,
        mul_s-suc R g h n,
        mul_s-zero R f g,
      )
      (ring L (f zero ∷ g zero ∷ h (suc n) ∷ mul_s R (tail R g) h n ∷ mul_s R (tail R f) (mul_s R g h) n ∷ []) (search reading depth 25) tt)

  zero-mul-at : (g : Seq R) (n : ℕ) → mul_s R (zero_s R) g n ≡ 𝟘
  unfolding zero_s
  zero-mul-at g zero = rw mul_s-zero (zero-mul L _)
  zero-mul-at g (suc n) = rw (mul_s-suc R (zero_s R) g n, zero-mul-at g n, zero-mul, add-zero)

  one-mul-at : (g : Seq R) (n : ℕ) → mul_s R (one_s R) g n ≡ g n
  unfolding one_s zero_s
  one-mul-at g zero = rw mul_s-zero (one-mul L _)
  one-mul-at g (suc n) = rw (mul_s-suc R (one_s R) g n, zero-mul-at g n, one-mul, add-zero)

  add_s_assoc : (f g h : Seq R) → add_s R (add_s R f g) h ≡ add_s R f (add_s R g h)
  unfolding add_s
  add_s_assoc f g h = fun_ext (λ n. add_assoc L (f n) (g n) (h n))

  add_s_comm : (f g : Seq R) → add_s R f g ≡ add_s R g f
  unfolding add_s
  add_s_comm f g = fun_ext (λ n. add_comm L (f n) (g n))

  add_s-zero : (f : Seq R) → add_s R f (zero_s R) ≡ f
  unfolding add_s zero_s
  add_s-zero f = fun_ext (λ n. add-zero L (f n))

  add_s-neg : (f : Seq R) → add_s R f (neg_s R f) ≡ zero_s R
  unfolding add_s neg_s zero_s
  add_s-neg f = fun_ext (λ n. add-neg L (f n))

  mul_s-one : (f : Seq R) → mul_s R f (one_s R) ≡ f
  mul_s-one f = fun_ext (λ n. mul_comm-at f (one_s R) n ∙ one-mul-at f n)

  mul_s-add : (f g h : Seq R) → mul_s R f (add_s R g h) ≡ add_s R (mul_s R f g) (mul_s R f h)
  mul_s-add f g h = fun_ext (λ n. mul_comm-at f (add_s R g h) n ∙ add-mul-at g h f n ∙ rw (add_s-at, mul_comm-at g f n, mul_comm-at h f n))

  pub series : RingLaws (Series R)
  series =
      record {
        is_set = →_set L.is_set;
        plus_assoc = add_s_assoc;
        plus_comm = add_s_comm;
        plus_zero = add_s-zero;
        plus_neg = add_s-neg;
        times_assoc = λ f g h. fun_ext (mul_assoc-at f g h);
        times_comm = λ f g. fun_ext (mul_comm-at f g);
        times_one = mul_s-one;
        times_plus = mul_s-add;
      }

-- `search` fits no bare variable of a function type to `R.Car`: the leaves of `reading`, at sequences
abbrev pub s-here : (R : Ring) {ρ : List (Seq R)} {x : Seq R} → At (Series R) (x ∷ ρ) x
s-here R {ρ} {x} = here {R = Series R} {ρ = ρ} {x = x}

abbrev pub s-there : (R : Ring) {ρ : List (Seq R)} {x y : Seq R} → At (Series R) ρ x → At (Series R) (y ∷ ρ) x
s-there R {ρ} {x} {y} a = there {R = Series R} {ρ = ρ} {x = x} {y = y} a

abbrev pub s_atom : (R : Ring) {ρ : List (Seq R)} {x : Seq R} → At (Series R) ρ x → Read (Series R) ρ x
s_atom R {ρ} {x} a = r_atom {R = Series R} {ρ = ρ} {x = x} a

-- what `ring` reads by, at sequences: `ring (series L) atoms (search readings depth 25) tt`
pub ruleset readings = (reading, s_atom, s-here, s-there)

module _ {R : Ring} (L : RingLaws R) where
  open R use {Car, 𝟘, 𝟙, plus as ◌⊕◌, times as ◌⊗◌, neg as ⊖◌}

  infixl 65 ◌⊕◌
  infixl 70 ◌⊗◌
  infix 75 ⊖◌
  -- the product is the Cauchy product
  pub mul_s-sum : (f g : Seq R) (n : ℕ) → mul_s R f g n ≡ sum R (suc n) (λ i. f i ⊗ g (n - i))
  mul_s-sum f g zero = rw mul_s-zero (simp sum-one)
  mul_s-sum f g (suc n) =
      rw (mul_s-suc R f g n, mul_s-sum (tail R f) g n, sum-front L (suc n) (λ i. f i ⊗ g (suc n - i)))
      (simp (suc-sub-suc, sub-zero))

  -- a coefficient to which one term only contributes
  pub mul_s-single : (n m : ℕ) (f g : Seq R) → ((u : ℕ) → u < suc (n + m) → u ≢ n → f u ⊗ g (n + m - u) ≡ 𝟘) → mul_s R f g (n + m) ≡ f n ⊗ g m
  mul_s-single n m f g h =
      mul_s-sum f g (n + m) ∙ sum-single L (suc (n + m)) n (λ u. f u ⊗ g (n + m - u)) (omega arith) h ∙ rw (add-sub_cancel_left n m)

  pub sum-at : (n : ℕ) (f : ℕ → Seq R) (i : ℕ) → sum (Series R) n f i ≡ sum R n (λ s. f s i)
  sum-at zero f i = rw (sum-zero (Series R) f, sum-zero R (λ s. f s i)) (zero_s-at R i)
  sum-at (suc n) f i = rw (sum-suc (Series R) n f, sum-suc R n (λ s. f s i), add_s-at R, sum-at n f i)

  pub multiple-at : (k : ℕ) (f : Seq R) (i : ℕ) → multiple (Series R) k f i ≡ multiple R k (f i)
  multiple-at zero f i = zero_s-at R i
  multiple-at (suc k) f i = add_s-at R f (multiple (Series R) k f) i ∙ ap (λ (x : Car). f i ⊕ x) (multiple-at k f i)
