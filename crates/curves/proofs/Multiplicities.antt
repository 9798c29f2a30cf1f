-- Multiplicity by binomials is the order at the origin of the moved curve. So it does not depend on the bounds by which the curve's
-- finiteness is said, and the curves of demand 2 are closed under sums and under multiples by polynomials in x. The theory has a
-- multiplicity for each place; demand 2 has the same one for all.
use mathlib.Core.Path.{◌≡◌, sym, ap, ◌∙◌, fun_ext}
use Prim.Native.Nat.{ℕ, suc, ◌+◌, ◌-◌, ◌<◌}
use native.Mathlib.Omega.{arith}
use Rattle.field.specs.Field.{Ring, RingLaws, pow, multiple, sum}
use Rattle.field.proofs.RingLaws.{add-zero, mul-zero}
use Rattle.field.proofs.Sums.{sum_cong}
use Rattle.poly.specs.Polynomials.{Seq, Series, add_s, mul_s, scale_s, zero_s, const_s, Below, binomial}
use Rattle.poly.proofs.Series.{series, add_s-at, scale_s-at, sum-at, multiple-at}
use Rattle.poly.proofs.Constants.{mul_const, const-pow}
use Rattle.poly.proofs.Bounds.{below-add, below-mul, below-same}
use Rattle.poly.proofs.Shift.{shift, shift-null, shift-add, shift-mul, shift-any, shift-scale}
use Rattle.poly.proofs.Orders.{Vanish, ord-add, ord-mul}
use Rattle.poly.proofs.Binomials.{part, shift-binomial}
use Rattle.curves.specs.Curves.{Curve, Finite, Height, x_times, Span, shifted, Multiplicity, Passing}
use Rattle.curves.proofs.Heights.{zero-at, height-below, below-height}
use Rattle.curves.proofs.Spans.{span-closed}
use Rattle.curves.proofs.MovedCurves.{moved}

module _ (R : Ring) where
  -- fewer than M powers of x and N of y
  pub record Bounded (M N : ℕ) (Q : Curve R) : Type 0 where
    pub wide : (j : ℕ) → Below R M (Q j)
    pub tall : Height R N Q

  -- `Passing`, with the multiplicity m_s at place s
  pub record PassingEach (n : ℕ) (ms : ℕ → ℕ) (l : ℕ) (a v : ℕ → R.Car) (Q : Curve R) : Type 0 where
    pub finite : Finite R Q
    pub height : Height R (suc l) Q
    pub multiplicity : (s : ℕ) → s < n → Multiplicity R (ms s) finite.0 (suc l) (a s) (v s) Q

module _ {R : Ring} {n m l : ℕ} {a v : ℕ → R.Car} {Q : Curve R} where
  pub passing-each : Passing R n m l a v Q → PassingEach R n (λ _. m) l a v Q
  passing-each p = record { finite = p.finite; height = p.height; multiplicity = p.multiplicity }

  pub each_passing : PassingEach R n (λ _. m) l a v Q → Passing R n m l a v Q
  each_passing p = record { finite = p.finite; height = p.height; multiplicity = p.multiplicity }

module _ {R : Ring} (L : RingLaws R) where
  open R use {Car, times as ◌⊗◌}

  infixl 70 ◌⊗◌
  -- the coefficients of the definition are those of the moved curve
  shifted-is : (M N : ℕ) (a v : Car) (Q : Curve R) (i j : ℕ) → shifted R M N a v Q i j ≡ moved R M N a v Q j i
  unfolding shifted
  shifted-is M N a v Q i j =
      sym
      (ap (λ (g : Seq R). g i) (shift-binomial (series L) (const_s R v) N P j)
      ∙ sum-at L N (part (Series R) (const_s R v) j P) i
      ∙ sum_cong L N (λ s. part (Series R) (const_s R v) j P s i)
      (λ s. multiple R (binomial s j) (pow R v (s - j) ⊗ sum R M (λ r. multiple R (binomial r i) (pow R a (r - i) ⊗ Q s r)))) each)
    where
      P : Curve R
      P s = shift R a M (Q s)

      each : (s : ℕ) → s < N → part (Series R) (const_s R v) j P s i
          ≡ multiple R (binomial s j) (pow R v (s - j) ⊗ sum R M (λ r. multiple R (binomial r i) (pow R a (r - i) ⊗ Q s r)))
      each s l =
          multiple-at L (binomial s j) (mul_s R (pow (Series R) (const_s R v) (s - j)) (P s)) i
          ∙ ap (multiple R (binomial s j))
          (ap (λ (g : Seq R). mul_s R g (P s) i) (sym (const-pow L v (s - j))) ∙ ap (λ (g : Seq R). g i) (mul_const L (pow R v (s - j)) (P s))
          ∙ scale_s-at R (pow R v (s - j)) (P s) i
          ∙ ap (λ (x : Car). pow R v (s - j) ⊗ x) (shift-binomial L a M (Q s) i))

  pub multiplicity_vanish : (m M N : ℕ) (a v : Car) (Q : Curve R) → Multiplicity R m M N a v Q → Vanish R m (moved R M N a v Q)
  multiplicity_vanish m M N a v Q h u i l = sym (shifted-is M N a v Q i u) ∙ h i u (omega arith)

  pub vanish-multiplicity : (m M N : ℕ) (a v : Car) (Q : Curve R) → Vanish R m (moved R M N a v Q) → Multiplicity R m M N a v Q
  vanish-multiplicity m M N a v Q h i j l = shifted-is M N a v Q i j ∙ h j i (omega arith)

  moved-any : {M M' N N' : ℕ} {Q : Curve R} → Bounded R M N Q → Bounded R M' N' Q → (a v : Car) → moved R M N a v Q ≡ moved R M' N' a v Q
  moved-any {M} {M'} {N} {N'} {Q} b c a v =
      ap (λ (P : Curve R). shift (Series R) (const_s R v) N P) (fun_ext (λ j. shift-any L a M M' (Q j) (b.wide j) (c.wide j)))
      ∙ shift-any (series L) (const_s R v) N N' (λ j. shift R a M' (Q j)) (flat b.tall) (flat c.tall)
    where
      flat : {K : ℕ} → Height R K Q → Below (Series R) K (λ j. shift R a M' (Q j))
      flat t j k = ap (shift R a M') (height-below R t j k) ∙ shift-null L a M'

  pub multiplicity-any : {M M' N N' : ℕ} {Q : Curve R} → Bounded R M N Q → Bounded R M' N' Q → (m : ℕ) (a v : Car) → Multiplicity R m M N a v Q
      → Multiplicity R m M' N' a v Q
  multiplicity-any {M} {M'} {N} {N'} {Q} b c m a v h =
      vanish-multiplicity m M' N' a v Q (rw (moved-any b c a v) at (multiplicity_vanish m M N a v Q h))

  moved-zero : (M N : ℕ) (a v : Car) → moved R M N a v (zero_s (Series R)) ≡ zero_s (Series R)
  unfolding zero_s
  moved-zero M N a v = ap (shift (Series R) (const_s R v) N) (fun_ext (λ j. shift-null L a M)) ∙ shift-null (series L) (const_s R v) N

  moved-add : (M N : ℕ) (a v : Car) (P Q : Curve R) → moved R M N a v (add_s (Series R) P Q)
      ≡ add_s (Series R) (moved R M N a v P) (moved R M N a v Q)
  unfolding add_s
  moved-add M N a v P Q =
      ap (shift (Series R) (const_s R v) N) (fun_ext (λ j. shift-add L a M (P j) (Q j)))
      ∙ shift-add (series L) (const_s R v) N (λ j. shift R a M (P j)) (λ j. shift R a M (Q j))

  moved-x_times : (D M N : ℕ) (a v : Car) (q : Seq R) (Q : Curve R) → Below R D q → ((j : ℕ) → Below R M (Q j))
      → moved R (D + M) N a v (x_times R q Q) ≡ x_times R (shift R a D q) (moved R M N a v Q)
  unfolding scale_s
  moved-x_times D M N a v q Q hq hQ =
      ap (shift (Series R) (const_s R v) N) (fun_ext (λ j. shift-mul L a D M q (Q j) hq (hQ j)))
      ∙ shift-scale (series L) (const_s R v) N (shift R a D q) (λ j. shift R a M (Q j))

  module _ {n : ℕ} {ms : ℕ → ℕ} {l : ℕ} {a v : ℕ → Car} where
    pub each-any : {Q : Curve R} → PassingEach R n ms l a v Q → (fin : Finite R Q) (s : ℕ) → s < n
        → Multiplicity R (ms s) fin.0 (suc l) (a s) (v s) Q
    each-any {Q} p fin s k =
        multiplicity-any {M = p.finite.0} {M' = fin.0} {N = suc l} {N' = suc l} {Q = Q} (record { wide = p.finite.1; tall = p.height })
        (record { wide = fin.1; tall = p.height }) (ms s) (a s) (v s) (p.multiplicity s k)

    pub each-zero : PassingEach R n ms l a v (zero_s (Series R))
    each-zero =
        record {
          finite = (0, λ j i k. zero-at R j i);
          height = λ j i k. zero-at R j i;
          multiplicity =
              λ s k. vanish-multiplicity (ms s) 0 (suc l) (a s) (v s) (zero_s (Series R))
              (rw (moved-zero 0 (suc l) (a s) (v s)) (λ u i q. zero-at R u i));
        }

    pub each-add : {P Q : Curve R} → PassingEach R n ms l a v P → PassingEach R n ms l a v Q → PassingEach R n ms l a v (add_s (Series R) P Q)
    each-add {P} {Q} p q =
        record {
          finite = (M, λ j. below-same L (add_s-at (Series R) P Q j) (below-add L {N = M} {f = P j} {g = Q j} (wide_p j) (wide_q j)));
          height = λ j i k. ap (λ (f : Seq R). f i) (add_s-at (Series R) P Q j) ∙ add_s-at R (P j) (Q j) i
              ∙ rw (p.height j i k, q.height j i k) (add-zero L R.𝟘);
          multiplicity =
              λ s k. vanish-multiplicity (ms s) M (suc l) (a s) (v s) (add_s (Series R) P Q) (rw (moved-add M (suc l) (a s) (v s) P Q) (both s k));
        }
      where
        M : ℕ
        M = p.finite.0 + q.finite.0

        wide_p : (j : ℕ) → Below R M (P j)
        wide_p j i k = p.finite.1 j i (omega arith)

        wide_q : (j : ℕ) → Below R M (Q j)
        wide_q j i k = q.finite.1 j i (omega arith)

        both : (s : ℕ) → s < n → Vanish R (ms s) (add_s (Series R) (moved R M (suc l) (a s) (v s) P) (moved R M (suc l) (a s) (v s) Q))
        both s k u =
            let A : Curve R = moved R M (suc l) (a s) (v s) P in
            let B : Curve R = moved R M (suc l) (a s) (v s) Q in
            rw (add_s-at (Series R) A B u)
            (ord-add L {n = ms s - u} {f = A u} {g = B u}
            (multiplicity_vanish (ms s) M (suc l) (a s) (v s) P (each-any p (M, wide_p) s k) u)
            (multiplicity_vanish (ms s) M (suc l) (a s) (v s) Q (each-any q (M, wide_q) s k) u))

    pub each-x_times : {Q : Curve R} (D : ℕ) (q : Seq R) → Below R D q → PassingEach R n ms l a v Q → PassingEach R n ms l a v (x_times R q Q)
    each-x_times {Q} D q hq p =
        record {
          finite = (D + M, λ j. below-same L (scale_s-at (Series R) q Q j) (below-mul L D M q (Q j) hq (p.finite.1 j)));
          height = below-height R (λ j k. scale_s-at (Series R) q Q j ∙ rw (height-below R p.height j k) (mul-zero (series L) q));
          multiplicity =
              λ s k. vanish-multiplicity (ms s) (D + M) (suc l) (a s) (v s) (x_times R q Q)
              (rw (moved-x_times D M (suc l) (a s) (v s) q Q hq p.finite.1) (order s k));
        }
      where
        M : ℕ
        M = p.finite.0

        order : (s : ℕ) → s < n → Vanish R (ms s) (x_times R (shift R (a s) D q) (moved R M (suc l) (a s) (v s) Q))
        order s k u =
            let A : Curve R = moved R M (suc l) (a s) (v s) Q in
            rw (scale_s-at (Series R) (shift R (a s) D q) A u)
            (λ i t. ord-mul L 0 (ms s - u) (shift R (a s) D q) (A u) (λ j w. absurd (omega arith))
            (multiplicity_vanish (ms s) M (suc l) (a s) (v s) Q (p.multiplicity s k) u) i (omega arith))

    pub each_span : {k : ℕ} {rows : ℕ → Curve R} {Q : Curve R} → ((i : ℕ) → i < k → PassingEach R n ms l a v (rows i)) → Span R k rows Q
        → PassingEach R n ms l a v Q
    each_span {k} {rows} = span-closed L each-zero (λ P Q. each-add {P = P} {Q = Q}) (λ N f P. each-x_times {Q = P} N f) k rows
