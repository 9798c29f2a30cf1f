-- f (x + a), as the value of f at x + a in the ring of sequences: so shifting respects sums and products, shifts compose, and -a undoes a.
use mathlib.Core.Path.{◌≡◌, sym, ap, ap₂, ◌∙◌, fun_ext}
use mathlib.Core.List.{[], ◌∷◌}
use Prim.Native.Nat.{ℕ, zero, suc, ◌+◌, ◌≤◌}
use native.Mathlib.Nat.{add-zero as n-add-zero}
use native.Mathlib.Omega.{arith}
use Rattle.field.specs.Field.{Ring, RingLaws, pow, sum}
use Rattle.field.proofs.RingLaws.{one-mul, add-neg, neg-add_self, add-zero, mul-zero}
use Rattle.field.proofs.RingTactic.{ring, reading}
use Rattle.field.proofs.Sums.{pow-zero, pow-suc}
use Rattle.poly.specs.Polynomials.{Seq, tail, zero_s, add_s, mul_s, Series, const_s, lin, Below, value, scale_s, x_s, cons_s}
use Rattle.poly.proofs.Series.{series, zero_s-at, add_s-at, mul_s-zero, mul_s-suc, scale_s-at}
use Rattle.poly.proofs.Constants.{x_plus, const_s-zero, const_s-suc, x_plus-zero, x_plus-tail, x_plus-none, x_plus-neg, x_plus-add, cons-tail}
use Rattle.poly.proofs.Constants.{mul_const, const-mul}
use Rattle.poly.proofs.Bounds.{below-zero, below-tail, below-mono, below-add, below-null, below-same, below_const, below-x_plus}
use Rattle.poly.proofs.Bounds.{below-mul_tight}
use Rattle.poly.proofs.Evaluation.{Hom, map, map-add, map-mul, map-null, map_const, map-x_plus, map-below, eval, eval-mul, constant}
use Rattle.poly.proofs.Evaluation.{value-zero, value-suc, value-add, value-null, value-more, value-mul, value_const, value-x_plus, value_split}
use Rattle.poly.proofs.Evaluation.{value-scale}
use Rattle.poly.proofs.Parts.{drop}

module _ (R : Ring) where
  open R use {Car}

  unfoldable pub shift : Car → ℕ → Seq R → Seq R
  shift a N f = eval R (Series R) (const_s R) (x_plus R a) N f

  pub shift-zero : (a : Car) (f : Seq R) → shift a zero f ≡ zero_s R
  unfolding shift
  shift-zero a f = value-zero (Series R) (x_plus R a) (map R (Series R) (const_s R) f)

  pub shift-suc : (a : Car) (N : ℕ) (f : Seq R) → shift a (suc N) f ≡ add_s R (const_s R (f zero)) (mul_s R (x_plus R a) (shift a N (tail R f)))
  unfolding shift
  shift-suc a N f = value-suc (Series R) (x_plus R a) N (map R (Series R) (const_s R) f)

module _ {R : Ring} (L : RingLaws R) where
  open R use {Car, 𝟘, 𝟙, plus as ◌⊕◌, times as ◌⊗◌, neg as ⊖◌}

  infixl 65 ◌⊕◌
  infixl 70 ◌⊗◌
  infix 75 ⊖◌
  pub shift-null : (a : Car) (N : ℕ) → shift R a N (zero_s R) ≡ zero_s R
  unfolding shift
  shift-null a N = ap (value (Series R) (x_plus R a) N) (map-null (constant L)) ∙ value-null (series L) (x_plus R a) N

  pub shift-add : (a : Car) (N : ℕ) (f g : Seq R) → shift R a N (add_s R f g) ≡ add_s R (shift R a N f) (shift R a N g)
  unfolding shift
  shift-add a N f g =
      ap (value (Series R) (x_plus R a) N) (map-add (constant L) f g)
      ∙ value-add (series L) (x_plus R a) N (map R (Series R) (const_s R) f) (map R (Series R) (const_s R) g)

  pub shift-scale : (a : Car) (N : ℕ) (c : Car) (f : Seq R) → shift R a N (scale_s R c f) ≡ scale_s R c (shift R a N f)
  unfolding shift scale_s
  shift-scale a N c f =
      ap (value (Series R) (x_plus R a) N) (fun_ext (λ n. const-mul L c (f n)))
      ∙ value-scale (series L) (x_plus R a) N (const_s R c) (λ n. const_s R (f n))
      ∙ mul_const L c (shift R a N f)

  pub shift-mul : (a : Car) (N M : ℕ) (f g : Seq R) → Below R N f → Below R M g
      → shift R a (N + M) (mul_s R f g) ≡ mul_s R (shift R a N f) (shift R a M g)
  unfolding shift
  shift-mul a N M f g hf hg = eval-mul (constant L) (series L) (x_plus R a) N M f g hf hg

  -- more coefficients than there are do not change it
  pub shift-more : (a : Car) (N M : ℕ) (f : Seq R) → Below R N f → N ≤ M → shift R a M f ≡ shift R a N f
  unfolding shift
  shift-more a N M f h l = value-more (series L) (x_plus R a) N M (map R (Series R) (const_s R) f) (map-below (constant L) h) l

  -- nor does it matter by which bound they are counted
  pub shift-any : (a : Car) (N M : ℕ) (f : Seq R) → Below R N f → Below R M f → shift R a N f ≡ shift R a M f
  shift-any a N M f hN hM = sym (shift-more a N (N + M) f hN (omega arith)) ∙ shift-more a M (N + M) f hM (omega arith)

  pub below-shift : (a : Car) (N : ℕ) (f : Seq R) → Below R N (shift R a N f)
  below-shift a zero f = below-same L (shift-zero R a f) (below-null L zero)
  below-shift a (suc N) f =
      below-same L (shift-suc R a N f)
      (below-add L {N = suc N} {f = const_s R (f zero)} {g = mul_s R (x_plus R a) (shift R a N (tail R f))}
      (below-mono L {N = 1} {M = suc N} {f = const_s R (f zero)} (omega arith) (below_const L (f zero)))
      (λ j k. below-mul_tight L 1 N (x_plus R a) (shift R a N (tail R f)) (below-x_plus L a) (below-shift a N (tail R f)) j (omega arith)))

  -- the coefficients of f (x + a), by those of the tail of f
  pub shift-at-zero : (a : Car) (N : ℕ) (f : Seq R) → shift R a (suc N) f zero ≡ f zero ⊕ a ⊗ shift R a N (tail R f) zero
  shift-at-zero a N f = rw (shift-suc R a N f, add_s-at R, const_s-zero R, mul_s-zero R, x_plus-zero R)

  pub shift-at-suc : (a : Car) (N : ℕ) (f : Seq R) (j : ℕ)
      → shift R a (suc N) f (suc j) ≡ shift R a N (tail R f) j ⊕ a ⊗ shift R a N (tail R f) (suc j)
  shift-at-suc a N f j =
      rw (
        shift-suc R a N f,
        add_s-at R (const_s R (f zero)) (mul_s R (x_plus R a) (shift R a N (tail R f))) (suc j),
        const_s-suc R (f zero) j,
        mul_s-suc R (x_plus R a) (shift R a N (tail R f)) j,
        x_plus-zero R a,
        x_plus-tail R a,
        one-mul (series L) (shift R a N (tail R f)),
      )
      (ring L (a ∷ shift R a N (tail R f) j ∷ shift R a N (tail R f) (suc j) ∷ []) (search reading depth 25) tt)

  -- the constant term of f (x + a) is f (a)
  pub shift-value : (a : Car) (N : ℕ) (f : Seq R) → shift R a N f zero ≡ value R a N f
  shift-value a zero f = rw (shift-zero R a f, value-zero R a f) (zero_s-at R zero)
  shift-value a (suc N) f = rw (shift-at-zero a N f, shift-value a N (tail R f)) (sym (value-suc R a N f))

  -- the value of f (x + a) at s is the value of f at s + a
  pub value-shift : (s a : Car) (N : ℕ) (f : Seq R) → value R s N (shift R a N f) ≡ value R (s ⊕ a) N f
  value-shift s a zero f = value-zero R s (shift R a zero f) ∙ sym (value-zero R (s ⊕ a) f)
  value-shift s a (suc N) f =
      rw (shift-suc R a N f, value-add L s (suc N) (const_s R (f zero)) (mul_s R (x_plus R a) (shift R a N (tail R f))))
      (ap₂ ◌⊕◌
      (value-more L s 1 (suc N) (const_s R (f zero)) (below_const L (f zero)) (omega arith) ∙ value_const L s (f zero))
      (sym (value-more L s (suc N) (2 + N) (mul_s R (x_plus R a) (shift R a N (tail R f)))
      (λ j k. below-mul_tight L 1 N (x_plus R a) (shift R a N (tail R f)) (below-x_plus L a) (below-shift a N (tail R f)) j (omega arith))
      (omega arith))
      ∙ value-mul L s 2 N (x_plus R a) (shift R a N (tail R f)) (below-x_plus L a) (below-shift a N (tail R f))
      ∙ ap₂ ◌⊗◌ (value-x_plus L s a) (value-shift s a N (tail R f)))
      ∙ sym (value-suc R (s ⊕ a) N f))

  -- x - a at x + b
  pub shift-lin : (a b : Car) → shift R b 2 (lin R a) ≡ x_plus R (b ⊕ ⊖ a)
  unfolding shift
  shift-lin a b =
      ap (value (Series R) (x_plus R b) 2) (ap (map R (Series R) (const_s R)) (sym (x_plus-neg R a)) ∙ map-x_plus (constant L) (⊖ a))
      ∙ value-x_plus (series L) (x_plus R b) (const_s R (⊖ a))
      ∙ sym (x_plus-add L b (⊖ a))

module _ {R : Ring} (L : RingLaws R) where
  open R use {Car, 𝟘, 𝟙, plus as ◌⊕◌, times as ◌⊗◌}

  infixl 65 ◌⊕◌
  infixl 70 ◌⊗◌
  -- f at g + h x is f at g + x, each coefficient times a power of h
  pub value-line : (g h : Car) (N : ℕ) (f : Seq R) (j : ℕ)
      → value (Series R) (cons_s R g (const_s R h)) N (λ i. const_s R (f i)) j ≡ pow R h j ⊗ shift R g N f j
  unfolding cons_s
  value-line g h zero f j =
      ap (λ (k : Seq R). k j) (value-zero (Series R) (cons_s R g (const_s R h)) (λ i. const_s R (f i)))
      ∙ zero_s-at R j ∙ sym (rw (shift-zero R g f, zero_s-at R j) (mul-zero L (pow R h j)))
  value-line g h (suc N) f j =
      ap (λ (k : Seq R). k j) (value-suc (Series R) (cons_s R g (const_s R h)) N (λ i. const_s R (f i)))
      ∙ add_s-at R (const_s R (f 0)) (mul_s R (cons_s R g (const_s R h)) E) j ∙ at j (λ i. value-line g h N (tail R f) i)
    where
      E : Seq R
      E = value (Series R) (cons_s R g (const_s R h)) N (λ i. const_s R (f (suc i)))

      S : Seq R
      S = shift R g N (tail R f)

      first : (a b : Car) → a ⊕ g ⊗ (𝟙 ⊗ b) ≡ 𝟙 ⊗ (a ⊕ g ⊗ b)
      first a b = ring L (a ∷ b ∷ g ∷ []) (search reading depth 25) tt

      later : (q a b : Car) → 𝟘 ⊕ (g ⊗ (h ⊗ q ⊗ b) ⊕ h ⊗ (q ⊗ a)) ≡ h ⊗ q ⊗ (a ⊕ g ⊗ b)
      later q a b = ring L (q ∷ a ∷ b ∷ g ∷ h ∷ []) (search reading depth 25) tt

      at : (j : ℕ) → ((i : ℕ) → E i ≡ pow R h i ⊗ S i) → const_s R (f 0) j ⊕ mul_s R (cons_s R g (const_s R h)) E j
          ≡ pow R h j ⊗ shift R g (suc N) f j
      at zero ih =
          rw (const_s-zero R (f 0), mul_s-zero R (cons_s R g (const_s R h)) E, ih 0, shift-at-zero L g N f, pow-zero R h) (first (f 0) (S 0))
      at (suc j) ih =
          rw (
            const_s-suc R (f 0) j,
            mul_s-suc R (cons_s R g (const_s R h)) E j,
            mul_const L h E,
            scale_s-at R h E j,
            ih j,
            ih (suc j),
            shift-at-suc L g N f j,
            pow-suc R h j,
          ) (later (pow R h j) (S j) (S (suc j)))

-- shifting commutes with carrying the coefficients over
module _ {R S : Ring} {to : R.Car → S.Car} (φ : Hom R S to) where
  pub map-shift : (a : R.Car) (N : ℕ) (f : Seq R) → map R S to (shift R a N f) ≡ shift S (to a) N (map R S to f)
  map-shift a zero f = rw (shift-zero R a f, shift-zero S (to a) (map R S to f)) (map-null φ)
  map-shift a (suc N) f =
      rw (
        shift-suc R a N f,
        shift-suc S (to a) N (map R S to f),
        map-add φ (const_s R (f zero)) (mul_s R (x_plus R a) (shift R a N (tail R f))),
        map-mul φ (x_plus R a) (shift R a N (tail R f)),
        map_const φ (f zero),
        map-x_plus φ a,
        map-shift a N (tail R f),
      )

module _ {R : Ring} (L : RingLaws R) where
  open R use {Car, 𝟘, plus as ◌⊕◌, neg as ⊖◌}

  infixl 65 ◌⊕◌
  infix 75 ⊖◌
  pub shift-shift : (a b : Car) (N : ℕ) (f : Seq R) → shift R b N (shift R a N f) ≡ shift R (b ⊕ a) N f
  unfolding shift
  shift-shift a b N f =
      ap (value (Series R) (x_plus R b) N) (map-shift (constant L) a N f)
      ∙ value-shift (series L) (x_plus R b) (const_s R a) N (map R (Series R) (const_s R) f)
      ∙ ap (λ (s : Seq R). eval R (Series R) (const_s R) s N f) (sym (x_plus-add L b a))

  pub shift-none : (N : ℕ) (f : Seq R) → Below R N f → shift R 𝟘 N f ≡ f
  shift-none zero f h = shift-zero R 𝟘 f ∙ sym (below-zero L h)
  shift-none (suc N) f h = rw (shift-suc R 𝟘 N f, shift-none N (tail R f) (below-tail L h), x_plus-none R) (sym (cons-tail L f))

  pub shift-back : (a : Car) (N : ℕ) (f : Seq R) → Below R N f → shift R (⊖ a) N (shift R a N f) ≡ f
  shift-back a N f h = shift-shift a (⊖ a) N f ∙ rw (neg-add_self L a) (shift-none N f h)

  pub shift-forth : (a : Car) (N : ℕ) (f : Seq R) → Below R N f → shift R a N (shift R (⊖ a) N f) ≡ f
  shift-forth a N f h = shift-shift (⊖ a) a N f ∙ rw (add-neg L a) (shift-none N f h)

  -- f (x + c) = the sum of f_j (x + c)^j, j < m, and (x + c)^m times the rest
  pub shift_split : (c : Car) (m K : ℕ) (g : Seq R)
      → shift R c (m + K) g ≡ add_s R (sum (Series R) m (λ j. mul_s R (const_s R (g j)) (pow (Series R) (x_plus R c) j)))
      (mul_s R (pow (Series R) (x_plus R c) m) (shift R c K (drop R m g)))
  unfolding shift
  shift_split c m K g = value_split (series L) (x_plus R c) m K (map R (Series R) (const_s R) g)

  -- the first K coefficients, as the sum of their terms
  pub first_terms : (K : ℕ) (g : Seq R) → shift R 𝟘 K g ≡ sum (Series R) K (λ j. mul_s R (const_s R (g j)) (pow (Series R) (x_s R) j))
  first_terms K g =
      ap (λ (n : ℕ). shift R 𝟘 n g) (sym (n-add-zero K))
      ∙ shift_split 𝟘 K zero g
      ∙ rw (shift-zero R 𝟘 (drop R K g), x_plus-none R, mul-zero (series L) (pow (Series R) (x_s R) K)) (add-zero (series L) _)
