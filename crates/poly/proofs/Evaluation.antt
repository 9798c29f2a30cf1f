-- Evaluation is a homomorphism: the value at a point respects sums, products and one.
-- Along a homomorphism of rings the coefficients are carried over first, then evaluated.
use mathlib.Core.Path.{◌≡◌, refl, sym, ap, ◌∙◌, fun_ext}
use mathlib.Core.List.{[], ◌∷◌}
use Prim.Native.Nat.{ℕ, zero, suc, ◌+◌, ◌≤◌}
use native.Mathlib.Nat.{suc-add, zero-add as n-zero-add}
use native.Mathlib.Omega.{arith}
use Rattle.field.specs.Field.{Ring, RingLaws, pow, sum}
use Rattle.field.proofs.RingLaws.{add-zero, zero-add, mul-zero, zero-mul, neg_unique, add-neg, mul-left_comm, mul_assoc}
use Rattle.field.proofs.RingTactic.{ring, reading}
use Rattle.field.proofs.Sums.{pow-zero, pow-suc, sum-zero, sum-front, sum_cong, sum-mul}
use Rattle.poly.specs.Polynomials.{Seq, tail, zero_s, one_s, add_s, neg_s, scale_s, mul_s, Series, cons_s, const_s, Below, value}
use Rattle.poly.proofs.Series.{series, mul_s-zero, mul_s-suc, tail-mul_s, scale_s-at}
use Rattle.poly.proofs.Constants.{x_plus, x_plus-zero, x_plus-tail, const_s-zero, const-one, const-zero, const-add, const-mul}
use Rattle.poly.proofs.Bounds.{below-zero, below-tail}

module _ (R : Ring) where
  open R use {Car, 𝟘, 𝟙, plus as ◌⊕◌, times as ◌⊗◌, neg as ⊖◌}

  infixl 65 ◌⊕◌
  infixl 70 ◌⊗◌
  infix 75 ⊖◌
  pub value-zero : (a : Car) (f : Seq R) → value R a zero f ≡ 𝟘
  unfolding value
  value-zero a f = refl

  pub value-suc : (a : Car) (N : ℕ) (f : Seq R) → value R a (suc N) f ≡ f zero ⊕ a ⊗ value R a N (tail R f)
  unfolding value
  value-suc a N f = refl

module _ {R : Ring} (L : RingLaws R) (a : R.Car) where
  open R use {Car, 𝟘, 𝟙, plus as ◌⊕◌, times as ◌⊗◌, neg as ⊖◌}

  infixl 65 ◌⊕◌
  infixl 70 ◌⊗◌
  infix 75 ⊖◌
  pub value-add : (N : ℕ) (f g : Seq R) → value R a N (add_s R f g) ≡ value R a N f ⊕ value R a N g
  unfolding add_s
  value-add zero f g = rw (value-zero R a (add_s R f g), value-zero R a f, value-zero R a g) (sym (add-zero L 𝟘))
  value-add (suc N) f g =
      rw (value-suc R a N (add_s R f g), value-add N (tail R f) (tail R g), value-suc R a N f, value-suc R a N g)
      (ring L (f zero ∷ g zero ∷ a ∷ value R a N (tail R f) ∷ value R a N (tail R g) ∷ []) (search reading depth 25) tt)

  pub value-scale : (N : ℕ) (c : Car) (f : Seq R) → value R a N (scale_s R c f) ≡ c ⊗ value R a N f
  unfolding scale_s
  value-scale zero c f = rw (value-zero R a (scale_s R c f), value-zero R a f) (sym (mul-zero L c))
  value-scale (suc N) c f =
      rw (value-suc R a N (scale_s R c f), value-scale N c (tail R f), value-suc R a N f)
      (ring L (f zero ∷ c ∷ a ∷ value R a N (tail R f) ∷ []) (search reading depth 25) tt)

  pub value-null : (N : ℕ) → value R a N (zero_s R) ≡ 𝟘
  unfolding zero_s
  value-null zero = value-zero R a (zero_s R)
  value-null (suc N) = rw (value-suc R a N (zero_s R), value-null N, mul-zero) (zero-add L 𝟘)

  pub value-neg : (N : ℕ) (f : Seq R) → value R a N (neg_s R f) ≡ ⊖ (value R a N f)
  value-neg N f = neg_unique L (value R a N f) (value R a N (neg_s R f)) (sym (value-add N f (neg_s R f)) ∙ rw (add-neg (series L) f) (value-null N))

  -- more coefficients than there are do not change it
  pub value-more : (N M : ℕ) (f : Seq R) → Below R N f → N ≤ M → value R a M f ≡ value R a N f
  value-more zero M f h le = rw (below-zero L h, value-null M, value-null zero)
  value-more (suc N) zero f h le = absurd (omega arith)
  value-more (suc N) (suc M) f h le = rw (value-suc R a M f, value-suc R a N f, value-more N M (tail R f) (below-tail L h) (omega arith))

  regroup : (c d e t g : Car) → d ⊕ a ⊗ e ≡ g → c ⊗ d ⊕ a ⊗ (c ⊗ e ⊕ t ⊗ g) ≡ (c ⊕ a ⊗ t) ⊗ g
  regroup c d e t g h = rw (← h) (ring L (c ∷ d ∷ e ∷ t ∷ a ∷ []) (search reading depth 25) tt)

  pub value-mul : (N M : ℕ) (f g : Seq R) → Below R N f → Below R M g → value R a (N + M) (mul_s R f g) ≡ value R a N f ⊗ value R a M g
  value-mul zero M f g hf hg = rw (below-zero L hf, zero-mul (series L) g, value-null (zero + M), value-zero R a) (sym (zero-mul L _))
  value-mul (suc N) M f g hf hg =
      rw (
        suc-add N M,
        value-suc R a (N + M) (mul_s R f g),
        mul_s-zero R f g,
        tail-mul_s R f g,
        value-add (N + M) (scale_s R (f zero) (tail R g)) (mul_s R (tail R f) g),
        value-scale (N + M) (f zero) (tail R g),
        value-mul N M (tail R f) g (below-tail L hf) hg,
        value-suc R a N f,
      )
      (regroup (f zero) (g zero) (value R a (N + M) (tail R g)) (value R a N (tail R f)) (value R a M g)
      (sym (value-suc R a (N + M) g) ∙ value-more M (suc (N + M)) g hg (omega arith)))

  pub value_const : (c : Car) → value R a 1 (const_s R c) ≡ c
  value_const c = value-suc R a 0 (const_s R c) ∙ rw (value-zero R a (tail R (const_s R c)), const_s-zero R c, mul-zero) (add-zero L c)

  pub value-one : value R a 1 (one_s R) ≡ 𝟙
  value-one = ap (value R a 1) (sym (const-one L)) ∙ value_const 𝟙

  pub value-x_plus : (c : Car) → value R a 2 (x_plus R c) ≡ a ⊕ c
  value-x_plus c =
      value-suc R a 1 (x_plus R c) ∙ rw (x_plus-tail R c, x_plus-zero R c, value-one)
      (ring L (a ∷ c ∷ []) (search reading depth 25) tt)

  -- the value as a sum of powers, and what is left
  pub value_split : (m K : ℕ) (g : Seq R) → value R a (m + K) g ≡ sum R m (λ j. g j ⊗ pow R a j) ⊕ pow R a m ⊗ value R a K (λ i. g (m + i))
  value_split zero K g =
      rw (n-zero-add K, sum-zero R (λ j. g j ⊗ pow R a j), pow-zero R a, fun_ext {f = λ i. g (zero + i)} {g = g} (λ i. ap g (n-zero-add i)))
      (ring L (value R a K g ∷ []) (search reading depth 25) tt)
  value_split (suc m) K g =
      rw (
        suc-add m K,
        value-suc R a (m + K) g,
        value_split m K (tail R g),
        sum-front L m (λ j. g j ⊗ pow R a j),
        inner,
        pow-zero R a,
        pow-suc R a m,
        ← later,
      )
      (finish (g zero) (pow R a m) (sum R m (λ j. g (suc j) ⊗ pow R a j)) (value R a K (λ i. g (suc (m + i)))))
    where
      later : ◌≡◌ {A = Seq R} (λ i. g (suc (m + i))) (λ i. g (suc m + i))
      later = fun_ext (λ i. ap g (sym (suc-add m i)))

      -- `ring` reads a power with a variable exponent as a power, and stays stuck: it is an atom only as a variable
      finish : (c p z e : Car) → c ⊕ a ⊗ (z ⊕ p ⊗ e) ≡ c ⊗ 𝟙 ⊕ a ⊗ z ⊕ a ⊗ p ⊗ e
      finish c p z e = ring L (c ∷ a ∷ p ∷ z ∷ e ∷ []) (search reading depth 25) tt

      inner : sum R m (λ i. g (suc i) ⊗ pow R a (suc i)) ≡ a ⊗ sum R m (λ j. g (suc j) ⊗ pow R a j)
      inner =
          sum_cong L m (λ i. g (suc i) ⊗ pow R a (suc i)) (λ i. a ⊗ (g (suc i) ⊗ pow R a i))
          (λ i l. rw (pow-suc R a i) (mul-left_comm L (g (suc i)) a (pow R a i)))
          ∙ sum-mul L a m (λ j. g (suc j) ⊗ pow R a j)

module _ {R : Ring} (L : RingLaws R) where
  open R use {Car, plus as ◌⊕◌, times as ◌⊗◌}

  infixl 65 ◌⊕◌
  infixl 70 ◌⊗◌
  -- f at h x is f with each coefficient times a power of h
  pub value_powers : (h a : Car) (N : ℕ) (f : Seq R) → value R a N (λ j. pow R h j ⊗ f j) ≡ value R (h ⊗ a) N f
  value_powers h a zero f = value-zero R a (λ j. pow R h j ⊗ f j) ∙ sym (value-zero R (h ⊗ a) f)
  value_powers h a (suc N) f =
      rw (
        value-suc R a N (λ j. pow R h j ⊗ f j),
        out,
        value-scale L a N h (λ j. pow R h j ⊗ f (suc j)),
        value_powers h a N (tail R f),
        value-suc R (h ⊗ a) N f,
        pow-zero R h,
      )
      (ring L (f 0 ∷ h ∷ a ∷ value R (h ⊗ a) N (tail R f) ∷ []) (search reading depth 25) tt)
    where
      out : ◌≡◌ {A = Seq R} (λ j. pow R h (suc j) ⊗ f (suc j)) (scale_s R h (λ j. pow R h j ⊗ f (suc j)))
      out = fun_ext (λ j. rw (pow-suc R h j, scale_s-at R h (λ j. pow R h j ⊗ f (suc j)) j) (mul_assoc L h (pow R h j) (f (suc j))))

-- `to` respects the operations
pub record Hom (R S : Ring) (to : R.Car → S.Car) : Type 0 where
  pub to_one : to R.𝟙 ≡ S.𝟙
  pub to_zero : to R.𝟘 ≡ S.𝟘
  pub to_add : (a b : R.Car) → to (R.plus a b) ≡ S.plus (to a) (to b)
  pub to_mul : (a b : R.Car) → to (R.times a b) ≡ S.times (to a) (to b)

-- f (s), its coefficients carried to S; for S = R and `to` the identity it is `value`
module _ (R S : Ring) (to : R.Car → S.Car) where
  abbrev pub map : Seq R → Seq S
  map f = λ n. to (f n)

  abbrev pub eval : S.Car → ℕ → Seq R → S.Car
  eval s N f = value S s N (map f)

module _ {R S : Ring} {to : R.Car → S.Car} (φ : Hom R S to) where
  pub map-add : (f g : Seq R) → map R S to (add_s R f g) ≡ add_s S (map R S to f) (map R S to g)
  unfolding add_s
  map-add f g = fun_ext (λ n. φ.to_add (f n) (g n))

  pub map-mul : (f g : Seq R) → map R S to (mul_s R f g) ≡ mul_s S (map R S to f) (map R S to g)
  map-mul f g = fun_ext (at f g)
    where
      at : (f g : Seq R) (n : ℕ) → to (mul_s R f g n) ≡ mul_s S (map R S to f) (map R S to g) n
      at f g zero = rw (mul_s-zero R f g, mul_s-zero S (map R S to f) (map R S to g)) (φ.to_mul (f zero) (g zero))
      at f g (suc n) = rw (mul_s-suc R f g n, mul_s-suc S (map R S to f) (map R S to g) n, φ.to_add, φ.to_mul, at (tail R f) g n)

  pub map-null : map R S to (zero_s R) ≡ zero_s S
  unfolding zero_s
  map-null = fun_ext (λ n. φ.to_zero)

  pub map-cons : (c : R.Car) (f : Seq R) → map R S to (cons_s R c f) ≡ cons_s S (to c) (map R S to f)
  unfolding cons_s
  map-cons c f = fun_ext at
    where
      at : (n : ℕ) → to (cons_s R c f n) ≡ cons_s S (to c) (map R S to f) n
      at zero = refl
      at (suc n) = refl

  pub map_const : (c : R.Car) → map R S to (const_s R c) ≡ const_s S (to c)
  unfolding const_s
  map_const c = map-cons c (zero_s R) ∙ rw map-null

  pub map-one : map R S to (one_s R) ≡ one_s S
  unfolding one_s
  map-one = fun_ext at
    where
      at : (n : ℕ) → to (one_s R n) ≡ one_s S n
      at zero = φ.to_one
      at (suc n) = φ.to_zero

  pub map-x_plus : (a : R.Car) → map R S to (x_plus R a) ≡ x_plus S (to a)
  unfolding x_plus
  map-x_plus a = map-cons a (one_s R) ∙ rw map-one

  pub map-below : {N : ℕ} {f : Seq R} → Below R N f → Below S N (map R S to f)
  map-below h i l = ap to (h i l) ∙ φ.to_zero

  -- evaluation along a homomorphism is one
  pub eval-mul : (LS : RingLaws S) (s : S.Car) (N M : ℕ) (f g : Seq R) → Below R N f → Below R M g
      → eval R S to s (N + M) (mul_s R f g) ≡ S.times (eval R S to s N f) (eval R S to s M g)
  eval-mul LS s N M f g hf hg = ap (value S s (N + M)) (map-mul f g) ∙ value-mul LS s N M (map R S to f) (map R S to g) (map-below hf) (map-below hg)

-- a coefficient as a constant
pub constant : {R : Ring} (L : RingLaws R) → Hom R (Series R) (const_s R)
constant L = record { to_one = const-one L; to_zero = const-zero L; to_add = const-add L; to_mul = const-mul L }
