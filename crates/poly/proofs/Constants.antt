-- Constants, the variable and its powers, and x + a: every sequence is its constant term and x times its tail.
use mathlib.Core.Path.{◌≡◌, refl, sym, ◌∙◌, fun_ext, ap}
use mathlib.Core.Logic.{◌≢◌}
use mathlib.Core.List.{[], ◌∷◌}
use Prim.Native.Nat.{ℕ, zero, suc}
use Rattle.field.specs.Field.{Ring, RingLaws, pow}
use Rattle.field.proofs.RingLaws.{add-zero, zero-add, mul-zero, zero-mul, one-mul, add-neg, neg_unique}
use Rattle.field.proofs.RingTactic.{ring}
use Rattle.field.proofs.Sums.{pow-zero, pow-suc}
use Rattle.poly.specs.Polynomials.{Seq, tail, zero_s, one_s, add_s, neg_s, scale_s, mul_s, Series, cons_s, const_s, x_s, lin}
use Rattle.poly.proofs.Series.{series, readings, zero_s-at, mul_s-zero, mul_s-suc}

module _ (R : Ring) where
  open R use {Car, 𝟘, 𝟙, plus as ◌⊕◌, times as ◌⊗◌, neg as ⊖◌}

  infixl 65 ◌⊕◌
  infixl 70 ◌⊗◌
  infix 75 ⊖◌
  -- x + a
  unfoldable pub x_plus : Car → Seq R
  x_plus a = cons_s R a (one_s R)

  pub cons_s-zero : (c : Car) (f : Seq R) → cons_s R c f zero ≡ c
  unfolding cons_s
  cons_s-zero c f = refl

  pub cons_s-suc : (c : Car) (f : Seq R) (n : ℕ) → cons_s R c f (suc n) ≡ f n
  unfolding cons_s
  cons_s-suc c f n = refl

  pub const_s-zero : (c : Car) → const_s R c zero ≡ c
  unfolding const_s
  const_s-zero c = cons_s-zero c (zero_s R)

  pub const_s-suc : (c : Car) (n : ℕ) → const_s R c (suc n) ≡ 𝟘
  unfolding const_s
  const_s-suc c n = cons_s-suc c (zero_s R) n ∙ zero_s-at R n

  pub x_plus-zero : (a : Car) → x_plus a zero ≡ a
  unfolding x_plus
  x_plus-zero a = cons_s-zero a (one_s R)

  pub x_plus-tail : (a : Car) → tail R (x_plus a) ≡ one_s R
  unfolding x_plus cons_s
  x_plus-tail a = refl

  pub x_plus-none : x_plus 𝟘 ≡ x_s R
  unfolding x_plus x_s
  x_plus-none = refl

  pub x_plus-neg : (a : Car) → x_plus (⊖ a) ≡ lin R a
  unfolding x_plus lin
  x_plus-neg a = refl

module _ {R : Ring} (L : RingLaws R) where
  open R use {Car, 𝟘, 𝟙, plus as ◌⊕◌, times as ◌⊗◌, neg as ⊖◌}

  infixl 65 ◌⊕◌
  infixl 70 ◌⊗◌
  infix 75 ⊖◌
  -- two sequences with the same first coefficient and the same others
  pub cons_ext : (f g : Seq R) → f zero ≡ g zero → ((n : ℕ) → f (suc n) ≡ g (suc n)) → f ≡ g
  cons_ext f g p q = fun_ext go
    where
      go : (n : ℕ) → f n ≡ g n
      go zero = p
      go (suc n) = q n

  pub mul_const : (c : Car) (f : Seq R) → mul_s R (const_s R c) f ≡ scale_s R c f
  unfolding const_s cons_s scale_s
  mul_const c f =
      cons_ext (mul_s R (const_s R c) f) (scale_s R c f) (mul_s-zero R (const_s R c) f)
      (λ n. rw (mul_s-suc R (const_s R c) f n, zero-mul (series L) f, zero_s-at R n) (add-zero L _))

  pub mul-x : (f : Seq R) → mul_s R (x_s R) f ≡ cons_s R 𝟘 f
  unfolding x_s cons_s
  mul-x f =
      cons_ext (mul_s R (x_s R) f) (cons_s R 𝟘 f) (rw (mul_s-zero R (x_s R) f) (zero-mul L _))
      (λ n. rw (mul_s-suc R (x_s R) f n, one-mul (series L) f, zero-mul) (zero-add L _))

  pub cons-is : (c : Car) (f : Seq R) → cons_s R c f ≡ add_s R (const_s R c) (mul_s R (x_s R) f)
  unfolding cons_s const_s add_s zero_s
  cons-is c f = rw (mul-x f) (cons_ext (cons_s R c f) (add_s R (const_s R c) (cons_s R 𝟘 f)) (sym (add-zero L c)) (λ n. sym (zero-add L (f n))))

  pub cons_eta : (f : Seq R) → cons_s R (f zero) (tail R f) ≡ f
  unfolding cons_s
  cons_eta f = cons_ext (cons_s R (f zero) (tail R f)) f refl (λ n. refl)

  -- f = f 0 + x (tail f)
  pub cons-tail : (f : Seq R) → f ≡ add_s R (const_s R (f zero)) (mul_s R (x_s R) (tail R f))
  cons-tail f = sym (cons_eta f) ∙ cons-is (f zero) (tail R f)

  pub const-one : const_s R 𝟙 ≡ one_s R
  unfolding cons_s const_s one_s zero_s
  const-one = cons_ext (const_s R 𝟙) (one_s R) refl (λ n. refl)

  pub const-zero : const_s R 𝟘 ≡ zero_s R
  unfolding cons_s const_s zero_s
  const-zero = cons_ext (const_s R 𝟘) (zero_s R) refl (λ n. refl)

  pub const-add : (a b : Car) → const_s R (a ⊕ b) ≡ add_s R (const_s R a) (const_s R b)
  unfolding cons_s const_s zero_s add_s
  const-add a b = cons_ext (const_s R (a ⊕ b)) (add_s R (const_s R a) (const_s R b)) refl (λ n. sym (add-zero L 𝟘))

  pub const-mul : (a b : Car) → const_s R (a ⊗ b) ≡ mul_s R (const_s R a) (const_s R b)
  unfolding cons_s const_s zero_s scale_s
  const-mul a b = rw (mul_const a (const_s R b)) (cons_ext (const_s R (a ⊗ b)) (scale_s R a (const_s R b)) refl (λ n. sym (mul-zero L a)))

  pub const-neg : (a : Car) → const_s R (⊖ a) ≡ neg_s R (const_s R a)
  const-neg a = neg_unique (series L) (const_s R a) (const_s R (⊖ a)) (sym (const-add a (⊖ a)) ∙ rw (add-neg L a) const-zero)

  pub const-pow : (c : Car) (n : ℕ) → const_s R (pow R c n) ≡ pow (Series R) (const_s R c) n
  const-pow c zero = rw (pow-zero (Series R) (const_s R c), pow-zero R c) const-one
  const-pow c (suc n) = rw (pow-suc (Series R) (const_s R c) n, pow-suc R c n, ← const-pow c n) (const-mul c (pow R c n))

  pub x_plus-is : (a : Car) → x_plus R a ≡ add_s R (x_s R) (const_s R a)
  unfolding x_plus x_s cons_s const_s zero_s add_s
  x_plus-is a = cons_ext (x_plus R a) (add_s R (x_s R) (const_s R a)) (sym (zero-add L a)) (λ n. sym (add-zero L (one_s R n)))

  pub x_plus-add : (b c : Car) → x_plus R (b ⊕ c) ≡ add_s R (x_plus R b) (const_s R c)
  x_plus-add b c =
      rw (x_plus-is (b ⊕ c), x_plus-is b, const-add b c) (ring (series L) (x_s R ∷ const_s R b ∷ const_s R c ∷ []) (search readings depth 25) tt)

  pub lin-is : (a : Car) → lin R a ≡ add_s R (x_s R) (neg_s R (const_s R a))
  lin-is a = sym (x_plus-neg R a) ∙ x_plus-is (⊖ a) ∙ rw (const-neg a)

  -- x^i has the coefficient one at i, and no other
  pub power-same : (i : ℕ) → pow (Series R) (x_s R) i i ≡ 𝟙
  unfolding one_s cons_s
  power-same zero = rw (pow-zero (Series R) (x_s R))
  power-same (suc i) = rw (pow-suc (Series R) (x_s R) i, mul-x (pow (Series R) (x_s R) i)) (power-same i)

  pub power-other : (i j : ℕ) → j ≢ i → pow (Series R) (x_s R) i j ≡ 𝟘
  unfolding one_s cons_s
  power-other zero zero ne = absurd (ne refl)
  power-other zero (suc j) ne = rw (pow-zero (Series R) (x_s R))
  power-other (suc i) zero ne = rw (pow-suc (Series R) (x_s R) i, mul-x (pow (Series R) (x_s R) i))
  power-other (suc i) (suc j) ne = rw (pow-suc (Series R) (x_s R) i, mul-x (pow (Series R) (x_s R) i)) (power-other i j (λ e. ne (ap suc e)))
