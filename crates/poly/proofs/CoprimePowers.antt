-- Coprime powers: (x - a)^m divides f exactly when f (x + a) has order m, and dividing by it keeps the orders at the other places;
-- so at places whose differences cancel, as distinct points of a field do, the product of the powers divides f.
use mathlib.Core.Path.{◌≡◌, refl, sym, ap, ◌∙◌}
use mathlib.Core.Logic.{◌≢◌, ◌⊎◌, inl, inr}
use mathlib.Core.List.{[], ◌∷◌}
use Prim.Native.Nat.{ℕ, zero, suc, ◌+◌, ◌-◌, ◌≤◌, ◌<◌}
use native.Mathlib.Decide.{dec_le, ℕ_discrete}
use native.Mathlib.Nat.{sub-zero, suc-sub-suc}
use native.Mathlib.Omega.{arith}
use Rattle.field.specs.Field.{Ring, RingLaws, pow, prod, Field, FieldLaws}
use Rattle.field.proofs.RingLaws.{mul-zero, one-mul, mul_assoc, add-neg, difference-zero}
use Rattle.field.proofs.RingTactic.{ring}
use Rattle.field.proofs.Sums.{pow-zero, pow-suc, prod-zero, prod-suc}
use Rattle.field.proofs.FieldLaws.{no-zero_divisor}
use Rattle.poly.specs.Polynomials.{Seq, zero_s, one_s, add_s, neg_s, mul_s, Series, cons_s, lin, Below, value}
use Rattle.poly.proofs.Series.{series, readings, zero_s-at}
use Rattle.poly.proofs.Constants.{x_plus, x_plus-zero}
use Rattle.poly.proofs.Bounds.{below-zero, below-null, below-same, below-lin, below-add, below-neg, below-mul, below-mul_tight}
use Rattle.poly.proofs.Division.{quot, below-quot, divide-root}
use Rattle.poly.proofs.Shift.{shift, shift-null, shift-mul, shift-more, shift-any, shift-value, shift-lin}
use Rattle.poly.proofs.Orders.{Ord, ord-mul, Regular, ord-cancel, regular-one, no-zero_divisors}
use Rattle.poly.proofs.Degrees.{sum_below, sum_below-zero, sum_below-suc, sum_below_ones, Monic, monic-same, monic-lin, monic-pow, monic-prod}
use Rattle.poly.proofs.Degrees.{Leads, degree, lead-mul}

module _ (R : Ring) where
  open R use {Car, plus as ◌⊕◌, neg as ⊖◌}

  infixl 65 ◌⊕◌
  infix 75 ⊖◌
  -- (x - a)^m
  abbrev pub factor_at : Car → ℕ → Seq R
  factor_at a m = pow (Series R) (lin R a) m

  -- the product of (x - a_s)^(m_s) over s < n
  abbrev pub factors_at : ℕ → (ℕ → Car) → (ℕ → ℕ) → Seq R
  factors_at n a m = prod (Series R) n (λ s. factor_at (a s) (m s))

  -- a 0, .., a (n-1) are all different
  abbrev pub Distinct : ℕ → (ℕ → Car) → Type 0
  Distinct n a = (i j : ℕ) → i < n → j < n → a i ≡ a j → i ≡ j

  -- the differences of the first n places cancel
  abbrev pub Apart : ℕ → (ℕ → Car) → Type 0
  Apart n a = (i j : ℕ) → i < n → j < n → i ≢ j → Regular R (a i ⊕ ⊖ (a j))

  -- g divides f, with a quotient of at most N coefficients
  pub record Divides (N : ℕ) (g f : Seq R) : Type 0 where
    pub by : Seq R
    pub short : Below R N by
    pub is : f ≡ mul_s R g by

-- over a field the differences of distinct points cancel
pub distinct-apart : {F : Field} (Φ : FieldLaws F) (n : ℕ) (a : ℕ → F.ring.Car) → Distinct F.ring n a → Apart F.ring n a
distinct-apart {F} Φ n a inj i j l k ne x =
    no-zero_divisor Φ (F.ring.plus (a i) (F.ring.neg (a j))) x (λ z. ne (inj i j l k (difference-zero Φ.ring (a i) (a j) z)))

-- so do the differences of distinct polynomials over a field
pub polynomials-apart : {F : Field} (Φ : FieldLaws F) (n D : ℕ) (g : ℕ → Seq F.ring) → ((i : ℕ) → i < n → Below F.ring D (g i))
    → Distinct (Series F.ring) n g → Apart (Series F.ring) n g
polynomials-apart {F} Φ n D g h inj i j l k ne =
    no-zero_divisors Φ D (add_s F.ring (g i) (neg_s F.ring (g j)))
    (below-add Φ.ring {N = D} {f = g i} {g = neg_s F.ring (g j)} (h i l) (below-neg Φ.ring {N = D} {f = g j} (h j k)))
    (λ z. ne (inj i j l k (difference-zero (series Φ.ring) (g i) (g j) z)))

module _ {R : Ring} (L : RingLaws R) where
  open R use {Car, 𝟘, 𝟙, plus as ◌⊕◌, times as ◌⊗◌, neg as ⊖◌}

  infixl 65 ◌⊕◌
  infixl 70 ◌⊗◌
  infix 75 ⊖◌
  -- a product divides f: so do its factors
  pub divides-left : (N M : ℕ) (g h f : Seq R) → Below R M h → Divides R N (mul_s R g h) f → Divides R (M + N) g f
  divides-left N M g h f hh d =
      record { by = mul_s R h d.by; short = below-mul L M N h d.by hh d.short; is = d.is ∙ mul_assoc (series L) g h d.by }

  pub divides-right : (N M : ℕ) (g h f : Seq R) → Below R M g → Divides R N (mul_s R g h) f → Divides R (M + N) h f
  divides-right N M g h f hg d =
      record {
        by = mul_s R g d.by;
        short = below-mul L M N g d.by hg d.short;
        is = d.is ∙ ring (series L) (g ∷ h ∷ d.by ∷ []) (search readings depth 25) tt;
      }

  -- x + b for x in f = (x - a) q
  shift-factor : (a b : Car) (N : ℕ) (f q : Seq R) → Below R N q → f ≡ mul_s R (lin R a) q
      → shift R b (suc N) f ≡ mul_s R (x_plus R (b ⊕ ⊖ a)) (shift R b N q)
  shift-factor a b N f q hq e =
      sym (shift-more L b (suc N) (2 + N) f (below-same L e (λ i l. below-mul_tight L 1 N (lin R a) q (below-lin L a) hq i (omega arith)))
      (omega arith))
      ∙ ap (shift R b (2 + N)) e
      ∙ shift-mul L b 2 N (lin R a) q (below-lin L a) hq
      ∙ rw (shift-lin L a b)

  low : (a : Car) → Ord R 1 (x_plus R (a ⊕ ⊖ a))
  low a zero l = x_plus-zero R (a ⊕ ⊖ a) ∙ add-neg L a
  low a (suc i) l = absurd (omega arith)

  -- at a the order of the quotient is one less
  order-same : (a : Car) (m N : ℕ) (f q : Seq R) → Below R N q → f ≡ mul_s R (lin R a) q → Ord R (suc m) (shift R a (suc N) f)
      → Ord R m (shift R a N q)
  unfolding x_plus cons_s one_s
  order-same a m N f q hq e o =
      ord-cancel L 1 m (x_plus R (a ⊕ ⊖ a)) (shift R a N q) (low a) (regular-one L)
      (λ i l. ap (λ (g : Seq R). g i) (sym (shift-factor a a N f q hq e)) ∙ o i (omega arith))

  -- at another place it is the same
  order-other : (a b : Car) (m N : ℕ) (f q : Seq R) → Below R N q → f ≡ mul_s R (lin R a) q → Regular R (b ⊕ ⊖ a) → Ord R m (shift R b (suc N) f)
      → Ord R m (shift R b N q)
  unfolding x_plus cons_s
  order-other a b m N f q hq e r o =
      ord-cancel L 0 m (x_plus R (b ⊕ ⊖ a)) (shift R b N q) (λ i l. absurd (omega arith)) r
      (λ i l. ap (λ (g : Seq R). g i) (sym (shift-factor a b N f q hq e)) ∙ o i (omega arith))

  pub monic-factor_at : (a : Car) (m : ℕ) → Monic R m (factor_at R a m)
  monic-factor_at a m = monic-same L (omega arith) refl (monic-pow L 1 m (lin R a) (monic-lin L a))

  pub monic-factors_at : (n : ℕ) (a : ℕ → Car) (m : ℕ → ℕ) → Monic R (sum_below n m) (factors_at R n a m)
  monic-factors_at n a m = monic-prod L n m (λ s. factor_at R (a s) (m s)) (λ s. monic-factor_at (a s) (m s))

  -- order at least m at a gives the factor (x - a)^m, and the quotient has at the other places the orders that f has
  pub factor_at-divides : (m N : ℕ) (a : Car) (f : Seq R) → Below R N f → Ord R m (shift R a N f)
      → (d : Divides R (N - m) (factor_at R a m) f)
      × ((b : Car) (k : ℕ) → Regular R (b ⊕ ⊖ a) → Ord R k (shift R b N f) → Ord R k (shift R b (N - m) d.by))
  factor_at-divides zero N a f h o = (
    record { by = f; short = rw (sub-zero N) h; is = rw (pow-zero (Series R) (lin R a)) (sym (one-mul (series L) f)) },
    λ b k r p. rw (sub-zero N) p,
  )
  factor_at-divides (suc m) zero a f h o = (
    record { by = zero_s R; short = below-null L (zero - suc m); is = below-zero L h ∙ sym (mul-zero (series L) (factor_at R a (suc m))) },
    λ b k r p i l. rw (shift-null L b (zero - suc m)) (below-null L zero i (omega arith)),
  )
  factor_at-divides (suc m) (suc N) a f h o =
      let q : Seq R = quot R a (suc N) f in
      let e : f ≡ mul_s R (lin R a) q = divide-root L a (suc N) f h (sym (shift-value L a (suc N) f) ∙ o 0 (omega arith)) in
      let hq : Below R N q = below-quot L a N f in
      let r = factor_at-divides m N a q hq (order-same a m N f q hq e o) in (
        record {
          by = r.0.by;
          short = rw (suc-sub-suc N m) r.0.short;
          is = e ∙ ap (mul_s R (lin R a)) r.0.is ∙ sym (mul_assoc (series L) (lin R a) (factor_at R a m) r.0.by)
              ∙ rw (pow-suc (Series R) (lin R a) m);
        },
        λ b k n p. rw (suc-sub-suc N m) (r.1 b k n (order-other a b k N f q hq e n p)),
      )

  -- the factor (x - a)^m gives the order
  pub factor_at-order : (m K N : ℕ) (a : Car) (f : Seq R) → Below R K f → Divides R N (factor_at R a m) f → Ord R m (shift R a K f)
  factor_at-order zero K N a f h d i l = absurd (omega arith)
  factor_at-order (suc m) K N a f h d i l =
      let p : Seq R = mul_s R (factor_at R a m) d.by in
      let P : ℕ = suc m + N in
      let hp : Below R P p = below-mul L (suc m) N (factor_at R a m) d.by (monic-factor_at a m).rest d.short in
      let e : f ≡ mul_s R (lin R a) p =
      d.is ∙ ap (λ (g : Seq R). mul_s R g d.by) (pow-suc (Series R) (lin R a) m) ∙ mul_assoc (series L) (lin R a) (factor_at R a m) d.by in
      let hf : Below R (suc P) f = below-same L e (λ i l. below-mul_tight L 1 P (lin R a) p (below-lin L a) hp i (omega arith)) in
      ap (λ (g : Seq R). g i) (shift-any L a K (suc P) f h hf ∙ shift-factor a a P f p hp e)
      ∙ ord-mul L 1 m (x_plus R (a ⊕ ⊖ a)) (shift R a P p) (low a)
      (factor_at-order m P N a p hp (record { by = d.by; short = d.short; is = refl })) i (omega arith)

  -- orders at places that are apart give the product as a factor
  pub factors_at-divide : (n N : ℕ) (a : ℕ → Car) (m : ℕ → ℕ) (f : Seq R) → Apart R n a → Below R N f
      → ((s : ℕ) → s < n → Ord R (m s) (shift R (a s) N f)) → Divides R (N - sum_below n m) (factors_at R n a m) f
  factors_at-divide zero N a m f apart h o =
      record {
        by = f;
        short = rw (sum_below-zero m, sub-zero N) h;
        is = rw (prod-zero (Series R) (λ s. factor_at R (a s) (m s))) (sym (one-mul (series L) f));
      }
  factors_at-divide (suc n) N a m f apart h o =
      let r = factor_at-divides (m n) N (a n) f h (o n (omega arith)) in
      let d = factors_at-divide n (N - m n) a m r.0.by (λ i j l k. apart i j (omega arith) (omega arith)) r.0.short
      (λ s l. r.1 (a s) (m s) (apart s n (omega arith) (omega arith) (λ e. omega arith)) (o s (omega arith))) in
      let t = sum_below-suc n m in
      record {
        by = d.by;
        short = λ i l. d.short i (omega arith);
        is =
            r.0.is ∙ ap (mul_s R (factor_at R (a n) (m n))) d.is
            ∙ turn (factor_at R (a n) (m n)) (factors_at R n a m) d.by
            ∙ ap (λ (g : Seq R). mul_s R g d.by) (sym (prod-suc (Series R) n (λ s. factor_at R (a s) (m s))));
      }
    where
      turn : (x y z : Seq R) → mul_s R x (mul_s R y z) ≡ mul_s R (mul_s R y x) z
      turn x y z = ring (series L) (x ∷ y ∷ z ∷ []) (search readings depth 25) tt

  -- the product as a factor gives the order at each place
  pub factors_at-order : (n K N : ℕ) (a : ℕ → Car) (m : ℕ → ℕ) (f : Seq R) → Below R K f → Divides R N (factors_at R n a m) f → (s : ℕ) → s < n
      → Ord R (m s) (shift R (a s) K f)
  factors_at-order zero K N a m f h d s l = absurd (omega arith)
  factors_at-order (suc n) K N a m f h d s l =
      go (ℕ_discrete s n) (factors_at-order n K (suc (m n) + N) a m f h
      (divides-left N (suc (m n)) (factors_at R n a m) (factor_at R (a n) (m n)) f (monic-factor_at (a n) (m n)).rest e) s)
    where
      e : Divides R N (mul_s R (factors_at R n a m) (factor_at R (a n) (m n))) f
      e = record { by = d.by; short = d.short; is = d.is ∙ rw (prod-suc (Series R) n (λ s. factor_at R (a s) (m s))) }

      go : Dec (s ≡ n) → (s < n → Ord R (m s) (shift R (a s) K f)) → Ord R (m s) (shift R (a s) K f)
      go (yes q) ih =
          rw q (factor_at-order (m n) K (suc (sum_below n m) + N) (a n) f h
          (divides-right N (suc (sum_below n m)) (factors_at R n a m) (factor_at R (a n) (m n)) f (monic-factors_at n a m).rest e))
      go (no q) ih = ih (omega arith)

  -- a polynomial that vanishes, counted with multiplicity, as often as it may have coefficients, is zero
  pub orders-zero : (n N : ℕ) (a : ℕ → Car) (m : ℕ → ℕ) (f : Seq R) → Apart R n a → Below R N f → N ≤ sum_below n m
      → ((s : ℕ) → s < n → Ord R (m s) (shift R (a s) N f)) → f ≡ zero_s R
  orders-zero n N a m f apart h le o =
      let d = factors_at-divide n N a m f apart h o in
      d.is ∙ rw (below-zero L (λ i l. d.short i (omega arith))) (mul-zero (series L) (factors_at R n a m))

  pub roots-zero : (N : ℕ) (a : ℕ → Car) (f : Seq R) → Apart R N a → Below R N f → ((s : ℕ) → s < N → value R (a s) N f ≡ 𝟘) → f ≡ zero_s R
  roots-zero N a f apart h root = let t = sum_below_ones N in orders-zero N N a (λ s. 1) f apart h (omega arith) once
    where
      once : (s : ℕ) → s < N → Ord R 1 (shift R (a s) N f)
      once s l zero k = shift-value L (a s) N f ∙ root s l
      once s l (suc i) k = absurd (omega arith)

  -- a polynomial of degree at most l that is not zero has at most l roots
  pub roots-at-most : (l n : ℕ) (a : ℕ → Car) (f : Seq R) → f ≢ zero_s R → Below R (suc l) f → Apart R n a
      → ((s : ℕ) → s < n → value R (a s) (suc l) f ≡ 𝟘) → n ≤ l
  roots-at-most l n a f ne h apart root = go (dec_le n l)
    where
      go : Dec (n ≤ l) → n ≤ l
      go (yes k) = k
      go (no k) = absurd (ne (roots-zero (suc l) a f (λ i j p q. apart i j (omega arith) (omega arith)) h (λ s q. root s (omega arith))))

module _ {F : Field} (Φ : FieldLaws F) where
  abbrev R : Ring
  R = F.ring

  abbrev L : RingLaws R
  L = Φ.ring

  -- a nonzero multiple of a monic polynomial has no smaller degree
  pub divides-degree : (d N t : ℕ) (g f : Seq R) → Monic R d g → Divides R N g f → Leads R t f → d ≤ t
  divides-degree d N t g f mon div top = go (degree Φ N div.by div.short)
    where
      go : (div.by ≡ zero_s R) ⊎ ((e : ℕ) × Leads R e div.by) → d ≤ t
      go (inl z) = absurd (top.lead (ap (λ (k : Seq R). k t) (div.is ∙ ap (mul_s R g) z ∙ mul-zero (series L) g) ∙ zero_s-at R t))
      go (inr (e, q)) = high (dec_le (d + e) t)
        where
          at : f (d + e) ≡ div.by e
          at = ap (λ (k : Seq R). k (d + e)) div.is ∙ lead-mul L d e g div.by mon.rest q.rest
              ∙ ap (λ (x : R.Car). R.times x (div.by e)) mon.top ∙ one-mul L (div.by e)

          high : Dec (d + e ≤ t) → d ≤ t
          high (yes le) = omega arith
          high (no le) = absurd (q.lead (sym at ∙ top.rest (d + e) (omega arith)))
