-- Polynomials in x over a ring, as sequences of coefficients, lowest power first. Rules: section 2.
--   Seq R               f n is the coefficient of x^n
--   tail R f            the coefficients from the second on: f is f 0 + x (tail f)
--   zero_s R, one_s R   0, 1
--   add_s R f g, neg_s R f  f + g, -f, coefficient by coefficient
--   scale_s R c f       c f
--   mul_s R f g         f g, the Cauchy product: at x^n it is f 0 g n + f 1 g (n-1) + .. + f n g 0
--   Series R            the ring of these sequences; Series (Series R) are polynomials in y whose coefficients are polynomials in x
--   cons_s R c f        c + x f
--   const_s R c, x_s R  c, x
--   mono R c d          c x^d
--   lin R a             x - a
--   Below R N f         every coefficient from x^N on is zero: f is a polynomial of degree below N
--   value R a N f       f (a), for a polynomial f of degree below N, by Horner's rule
--   locator R n a       (x - a 0) .. (x - a (n-1))
--   Through R n a v h   h is a polynomial of degree below n, and h (a s) = v s for every s < n
--   binomial n i        the coefficient of x^i in (1 + x)^n
use Rattle.std.specs.Prelude.{◌≡◌, ℕ, zero, suc, ◌+◌, ◌≤◌, ◌<◌}
use Rattle.field.specs.Field.{Ring, prod}

module _ (R : Ring) where
  open R use {Car, 𝟘, 𝟙, plus as ◌⊕◌, times as ◌⊗◌, neg as ⊖◌}

  infixl 65 ◌⊕◌
  infixl 70 ◌⊗◌
  infix 75 ⊖◌
  abbrev pub Seq : Type 0
  Seq = ℕ → Car

  abbrev pub tail : Seq → Seq
  tail f = λ n. f (suc n)

  unfoldable pub zero_s : Seq
  zero_s n = 𝟘

  unfoldable pub one_s : Seq
  one_s zero = 𝟙
  one_s (suc n) = 𝟘

  unfoldable pub add_s : Seq → Seq → Seq
  add_s f g n = f n ⊕ g n

  unfoldable pub neg_s : Seq → Seq
  neg_s f n = ⊖ (f n)

  unfoldable pub scale_s : Car → Seq → Seq
  scale_s c f n = c ⊗ f n

  unfoldable pub mul_s : Seq → Seq → Seq
  mul_s f g zero = f zero ⊗ g zero
  mul_s f g (suc n) = f zero ⊗ g (suc n) ⊕ mul_s (tail f) g n

  abbrev pub Series : Ring
  Series = record { Car = Seq; 𝟘 = zero_s; 𝟙 = one_s; plus = add_s; times = mul_s; neg = neg_s }

  unfoldable pub cons_s : Car → Seq → Seq
  cons_s c f zero = c
  cons_s c f (suc n) = f n

  unfoldable pub const_s : Car → Seq
  const_s c = cons_s c zero_s

  unfoldable pub x_s : Seq
  x_s = cons_s 𝟘 one_s

  unfoldable pub mono : Car → ℕ → Seq
  mono c zero = const_s c
  mono c (suc d) = cons_s 𝟘 (mono c d)

  unfoldable pub lin : Car → Seq
  lin a = cons_s (⊖ a) one_s

  abbrev pub Below : ℕ → Seq → Type 0
  Below N f = (i : ℕ) → N ≤ i → f i ≡ 𝟘

  unfoldable pub value : Car → ℕ → Seq → Car
  value a zero f = 𝟘
  value a (suc N) f = f zero ⊕ a ⊗ value a N (tail f)

  abbrev pub locator : ℕ → (ℕ → Car) → Seq
  locator n a = prod Series n (λ s. lin (a s))

  pub record Through (n : ℕ) (a v : ℕ → Car) (h : Seq) : Type 0 where
    pub short : Below n h
    pub hits : (s : ℕ) → s < n → value (a s) n h ≡ v s

unfoldable pub binomial : ℕ → ℕ → ℕ
binomial n zero = 1
binomial zero (suc i) = 0
binomial (suc n) (suc i) = binomial n i + binomial n (suc i)
