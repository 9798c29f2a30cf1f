-- Sums of rows, each times a polynomial in x: the rows themselves, sums, multiples, and spans within spans.
-- A span is used through these lemmas only.
use mathlib.Core.Path.{◌≡◌, sym, ap, ap₂, ◌∙◌, fun_ext}
use mathlib.Core.Logic.{◌↔◌}
use mathlib.Core.List.{[], ◌∷◌}
use Prim.Native.Nat.{ℕ, zero, suc, ◌+◌, ◌<◌}
use native.Mathlib.Omega.{arith}
use native.Mathlib.Decide.{ℕ_discrete}
use Rattle.field.specs.Field.{Ring, RingLaws, sum}
use Rattle.field.specs.Choices.{put}
use Rattle.field.proofs.RingLaws.{mul-zero, zero-mul, one-mul, mul_assoc, mul-add, add-mul}
use Rattle.field.proofs.RingTactic.{ring}
use Rattle.field.proofs.Sums.{sum-zero, sum-suc, sum_cong, sum-null, sum-add, sum-single}
use Rattle.field.proofs.Choices.{put-same, put-other}
use Rattle.poly.specs.Polynomials.{Seq, Series, add_s, neg_s, mul_s, scale_s, zero_s, one_s, Below, mono}
use Rattle.poly.proofs.Series.{series, readings, zero_s-at}
use Rattle.poly.proofs.Constants.{const-one}
use Rattle.poly.proofs.Bounds.{below-add, below-mul, below_const}
use Rattle.poly.proofs.Monomials.{delay, delay-zero, mono-below}
use Rattle.curves.specs.Curves.{Curve, x_times, Span}
use Rattle.curves.specs.Turns.{cross}
use Rattle.curves.proofs.Crossing.{x_times-mono, cross-at}

module _ (R : Ring) (n : ℕ) where
  -- the first n rows span the same curves as the first n new ones
  abbrev pub Same : (ℕ → Curve R) → (ℕ → Curve R) → Type 0
  Same rows new = (Q : Curve R) → Span R n rows Q ↔ Span R n new Q

  pub same_refl : (rows : ℕ → Curve R) → Same rows rows
  same_refl rows Q = (λ x. x, λ x. x)

  pub same_trans : (rows new newer : ℕ → Curve R) → Same rows new → Same new newer → Same rows newer
  same_trans rows new newer p q Q = (λ x. (q Q).0 ((p Q).0 x), λ x. (p Q).1 ((q Q).1 x))

module _ {R : Ring} (L : RingLaws R) where
  open R use {Car, 𝟙, plus as ◌⊕◌, times as ◌⊗◌, neg as ⊖◌}
  open Series (Series R) use {plus as ◌⊞◌, neg as ⊟◌, 𝟘 as 𝟘₂}

  infixl 65 ◌⊕◌ ◌⊞◌
  infixl 70 ◌⊗◌
  infix 75 ⊖◌ ⊟◌
  -- curves are a module over the polynomials in x
  x_times-sum : (p q : Seq R) (Q : Curve R) → x_times R (add_s R p q) Q ≡ x_times R p Q ⊞ x_times R q Q
  unfolding scale_s add_s
  x_times-sum p q Q = fun_ext (λ j. add-mul (series L) p q (Q j))

  x_times-x_times : (p q : Seq R) (Q : Curve R) → x_times R (mul_s R p q) Q ≡ x_times R p (x_times R q Q)
  unfolding scale_s
  x_times-x_times p q Q = fun_ext (λ j. mul_assoc (series L) p q (Q j))

  x_times-plus : (p : Seq R) (P Q : Curve R) → x_times R p (P ⊞ Q) ≡ x_times R p P ⊞ x_times R p Q
  unfolding scale_s add_s
  x_times-plus p P Q = fun_ext (λ j. mul-add (series L) p (P j) (Q j))

  x_times-one : (Q : Curve R) → x_times R (one_s R) Q ≡ Q
  unfolding scale_s
  x_times-one Q = fun_ext (λ j. one-mul (series L) (Q j))

  pub x_times-zero : (Q : Curve R) → x_times R (zero_s R) Q ≡ 𝟘₂
  unfolding scale_s zero_s
  x_times-zero Q = fun_ext (λ j. zero-mul (series L) (Q j))

  x_times-null : (p : Seq R) → x_times R p 𝟘₂ ≡ 𝟘₂
  unfolding scale_s zero_s
  x_times-null p = fun_ext (λ j. mul-zero (series L) p)

  x_times-over : (p : Seq R) (n : ℕ) (f : ℕ → Curve R) → x_times R p (sum (Series (Series R)) n f)
      ≡ sum (Series (Series R)) n (λ i. x_times R p (f i))
  x_times-over p zero f = rw (sum-zero (Series (Series R)) f, sum-zero (Series (Series R)) (λ i. x_times R p (f i))) (x_times-null p)
  x_times-over p (suc n) f =
      rw (
        sum-suc (Series (Series R)) n f,
        sum-suc (Series (Series R)) n (λ i. x_times R p (f i)),
        x_times-plus p (sum (Series (Series R)) n f) (f n),
        x_times-over p n f,
      )

  -- a set that has zero and that sums and multiples by polynomials do not leave has, with some curves, all that they span
  module _ {Member : Curve R → Type 0} (null : Member 𝟘₂) (plus : (P Q : Curve R) → Member P → Member Q → Member (P ⊞ Q))
      (scaled : (N : ℕ) (f : Seq R) (P : Curve R) → Below R N f → Member P → Member (x_times R f P)) where
    sum-closed : (m : ℕ) (f : ℕ → Curve R) → ((i : ℕ) → i < m → Member (f i)) → Member (sum (Series (Series R)) m f)
    sum-closed zero f h = rw (sum-zero (Series (Series R)) f) null
    sum-closed (suc m) f h = rw (sum-suc (Series (Series R)) m f) (plus _ _ (sum-closed m f (λ i l. h i (omega arith))) (h m (omega arith)))

    pub span-closed : (m : ℕ) (rows : ℕ → Curve R) {Q : Curve R} → ((i : ℕ) → i < m → Member (rows i)) → Span R m rows Q → Member Q
    span-closed m rows h q =
        rw q.is (sum-closed m (λ i. x_times R (q.factor i) (rows i))
        (λ i l. scaled (q.finite i).0 (q.factor i) (rows i) (q.finite i).1 (h i l)))

  module _ {n : ℕ} {rows : ℕ → Curve R} where
    pub span-zero : Span R n rows 𝟘₂
    span-zero =
        record {
          factor = λ i. zero_s R;
          finite = λ i. (0, λ k l. zero_s-at R k);
          is = sym (sum-null (series (series L)) n (λ i. x_times R (zero_s R) (rows i)) (λ i l. x_times-zero (rows i)));
        }

    pub span-add : {P Q : Curve R} → Span R n rows P → Span R n rows Q → Span R n rows (P ⊞ Q)
    span-add p q =
        record {
          factor = λ i. add_s R (p.factor i) (q.factor i);
          finite = λ i.
              let a = p.finite i in
              let b = q.finite i in (
                a.0 + b.0,
                below-add L {N = a.0 + b.0} {f = p.factor i} {g = q.factor i} (λ x y. a.1 x (omega arith)) (λ x y. b.1 x
                    (omega arith)),
              );
          is =
              ap₂ ◌⊞◌ p.is q.is
              ∙ sym
              (sum_cong (series (series L)) n (λ i. x_times R (add_s R (p.factor i) (q.factor i)) (rows i))
              (λ i. x_times R (p.factor i) (rows i) ⊞ x_times R (q.factor i) (rows i)) (λ i l. x_times-sum (p.factor i) (q.factor i) (rows i))
              ∙ sum-add (series (series L)) n (λ i. x_times R (p.factor i) (rows i)) (λ i. x_times R (q.factor i) (rows i)));
        }

    pub span-x_times : (N : ℕ) (f : Seq R) {P : Curve R} → Below R N f → Span R n rows P → Span R n rows (x_times R f P)
    span-x_times N f h p =
        record {
          factor = λ i. mul_s R f (p.factor i);
          finite = λ i. (N + (p.finite i).0, below-mul L N (p.finite i).0 f (p.factor i) h (p.finite i).1);
          is =
              ap (x_times R f) p.is
              ∙ x_times-over f n (λ i. x_times R (p.factor i) (rows i))
              ∙ sym (sum_cong (series (series L)) n (λ i. x_times R (mul_s R f (p.factor i)) (rows i))
              (λ i. x_times R f (x_times R (p.factor i) (rows i))) (λ i l. x_times-x_times f (p.factor i) (rows i)));
        }

    pub span-neg : {Q : Curve R} → Span R n rows Q → Span R n rows (⊟ Q)
    unfolding neg_s
    span-neg {Q} q = rw is (span-x_times 1 (mono R (⊖ 𝟙) 0) (mono-below L (⊖ 𝟙) 0) q)
      where
        at : (j i : ℕ) → ⊖ (Q j i) ≡ x_times R (mono R (⊖ 𝟙) 0) Q j i
        at j i = rw (x_times-mono L (⊖ 𝟙) 0 Q j i, delay-zero R (Q j) i) (ring L (Q j i ∷ []) (search readings depth 25) tt)

        is : ⊟ Q ≡ x_times R (mono R (⊖ 𝟙) 0) Q
        is = fun_ext (λ j. fun_ext (at j))

    -- what is in the span of members is in the span
    pub span_trans : (m : ℕ) (others : ℕ → Curve R) {Q : Curve R} → ((i : ℕ) → i < m → Span R n rows (others i)) → Span R m others Q
        → Span R n rows Q
    span_trans = span-closed span-zero (λ P Q. span-add {P = P} {Q = Q}) (λ N f P. span-x_times N f {P = P})

    pub span-row : (k : ℕ) → k < n → Span R n rows (rows k)
    span-row k l =
        record {
          factor = put k (one_s R) (λ i. zero_s R);
          finite = λ i. go i (ℕ_discrete i k);
          is =
              sym
              (sum-single (series (series L)) n k (λ i. x_times R (put k (one_s R) (λ j. zero_s R) i) (rows i)) l
              (λ i m x. rw (put-other k (one_s R) (λ j. zero_s R) i x) (x_times-zero (rows i)))
              ∙ rw (put-same k (one_s R) (λ j. zero_s R)) (x_times-one (rows k)));
        }
      where
        go : (i : ℕ) → Dec (i ≡ k) → (N : ℕ) × Below R N (put k (one_s R) (λ j. zero_s R) i)
        go i (yes e) = rw (e, put-same k (one_s R) (λ j. zero_s R), ← const-one L) (1, below_const L 𝟙)
        go i (no e) = rw (put-other k (one_s R) (λ j. zero_s R) i e) (0, λ x y. zero_s-at R x)

    pub span-cross : (a : ℕ) {P : Curve R} (c : Car) (b : ℕ) {Q : Curve R} → Span R n rows P → Span R n rows Q → Span R n rows (cross R a P c b Q)
    unfolding cross
    span-cross a c b p q =
        span-add (span-x_times (suc a) (mono R 𝟙 a) (mono-below L 𝟙 a) p) (span-x_times (suc b) (mono R (⊖ c) b) (mono-below L (⊖ c) b) q)

    -- P from P - c x^b Q and Q
    pub span_uncross-left : (P : Curve R) (c : Car) (b : ℕ) (Q : Curve R) → Span R n rows (cross R 0 P c b Q) → Span R n rows Q → Span R n rows P
    unfolding add_s
    span_uncross-left P c b Q p q = rw is (span-add p (span-x_times (suc b) (mono R c b) (mono-below L c b) q))
      where
        at : (j i : ℕ) → P j i ≡ cross R 0 P c b Q j i ⊕ x_times R (mono R c b) Q j i
        at j i =
            rw (cross-at L 0 P c b Q j i, x_times-mono L c b Q j i, delay-zero R (P j) i)
            (ring L (P j i ∷ c ∷ delay R b (Q j) i ∷ []) (search readings depth 25) tt)

        is : P ≡ cross R 0 P c b Q ⊞ x_times R (mono R c b) Q
        is = fun_ext (λ j. fun_ext (at j))

    -- Q from x^a P - c Q and P, where c d = 1
    pub span_uncross-right : (a : ℕ) (P : Curve R) (c d : Car) (Q : Curve R) → c ⊗ d ≡ 𝟙 → Span R n rows (cross R a P c 0 Q) → Span R n rows P
        → Span R n rows Q
    unfolding add_s
    span_uncross-right a P c d Q e p q =
        rw is (span-add (span-x_times (suc a) (mono R d a) (mono-below L d a) q) (span-x_times 1 (mono R (⊖ d) 0) (mono-below L (⊖ d) 0) p))
      where
        collect : (x y : Car) → d ⊗ x ⊕ ⊖ d ⊗ (x ⊕ ⊖ (c ⊗ y)) ≡ c ⊗ d ⊗ y
        collect x y = ring L (c ∷ d ∷ x ∷ y ∷ []) (search readings depth 25) tt

        at : (j i : ℕ) → Q j i ≡ x_times R (mono R d a) P j i ⊕ x_times R (mono R (⊖ d) 0) (cross R a P c 0 Q) j i
        at j i =
            rw (
              x_times-mono L d a P j i,
              x_times-mono L (⊖ d) 0 (cross R a P c 0 Q) j i,
              delay-zero R (cross R a P c 0 Q j) i,
              cross-at L a P c 0 Q j i,
              delay-zero R (Q j) i,
              collect (delay R a (P j) i) (Q j i),
              e,
            )
            (sym (one-mul L (Q j i)))

        is : Q ≡ x_times R (mono R d a) P ⊞ x_times R (mono R (⊖ d) 0) (cross R a P c 0 Q)
        is = fun_ext (λ j. fun_ext (at j))
