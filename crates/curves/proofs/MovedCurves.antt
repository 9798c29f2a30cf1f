-- A curve moved to a point, and a curve along a graph. Multiplicity at a point (a, h (a)) is the order at a of the coefficients of
-- Q (x, y + h): y + g for y keeps the order at the origin if g has no constant term, and so does y - g, which undoes it.
use mathlib.Core.Path.{◌≡◌, sym, ap, ◌∙◌}
use mathlib.Core.List.{[], ◌∷◌}
use Prim.Native.Nat.{ℕ, zero, suc, pred, ◌+◌, ◌-◌, ◌*◌, ◌<◌}
use native.Mathlib.Omega.{arith}
use Rattle.field.specs.Field.{Ring, RingLaws}
use Rattle.field.proofs.RingTactic.{ring}
use Rattle.poly.specs.Polynomials.{Seq, Series, tail, const_s, Below, Through}
use Rattle.poly.proofs.Series.{series, readings, zero_s-at}
use Rattle.poly.proofs.Bounds.{below-add, below-mul}
use Rattle.poly.proofs.Shift.{shift, shift-zero, shift-null, shift-add, shift-mul, shift-more, shift-at-zero, shift-at-suc, shift-value, shift-shift}
use Rattle.poly.proofs.Orders.{Ord, Vanish, ord-add, ord-neg, ord-mul, ord-minus_const}
use Rattle.curves.specs.Curves.{Curve, Finite}
use Rattle.curves.proofs.Heights.{zero-at}

module _ (R : Ring) where
  -- Q (x + a, y + v), for a curve of fewer than M powers of x and N of y
  abbrev pub moved : ℕ → ℕ → R.Car → R.Car → Curve R → Curve R
  moved M N a v Q = shift (Series R) (const_s R v) N (λ j. shift R a M (Q j))

module _ {R : Ring} (L : RingLaws R) where
  open Series R use {plus as ◌⊞◌, times as ◌⊠◌, neg as ⊟◌}

  infixl 65 ◌⊞◌
  infixl 70 ◌⊠◌
  infix 75 ⊟◌
  -- how many powers of x Q (x, y + h) may have
  pub below-along : (M D N : ℕ) (Q : Curve R) (h : Seq R) → ((j : ℕ) → Below R M (Q j)) → Below R D h → (j : ℕ)
      → Below R (N * D + M) (shift (Series R) h N Q j)
  below-along M D zero Q h hQ hh j i l = ap (λ (P : Curve R). P j i) (shift-zero (Series R) h Q) ∙ zero-at R j i
  below-along M D (suc N) Q h hQ hh zero i l =
      let S : Curve R = shift (Series R) h N (tail (Series R) Q) in
      rw (shift-at-zero (series L) h N Q)
      (below-add L {N = D + (N * D + M)} {f = Q 0} {g = h ⊠ S 0} (λ u k. hQ 0 u (omega arith))
      (below-mul L D (N * D + M) h (S 0) hh (below-along M D N (tail (Series R) Q) h (λ j. hQ (suc j)) hh 0)) i (omega arith))
  below-along M D (suc N) Q h hQ hh (suc j) i l =
      let S : Curve R = shift (Series R) h N (tail (Series R) Q) in
      let ih : (j : ℕ) → Below R (N * D + M) (S j) = below-along M D N (tail (Series R) Q) h (λ j. hQ (suc j)) hh in
      rw (shift-at-suc (series L) h N Q j)
      (below-add L {N = D + (N * D + M)} {f = S j} {g = h ⊠ S (suc j)} (λ u k. ih j u (omega arith))
      (below-mul L D (N * D + M) h (S (suc j)) hh (ih (suc j))) i (omega arith))

  -- x + a for x, after y + h for y and before
  shift-both : (a : R.Car) (M D N : ℕ) (Q : Curve R) (h : Seq R) → ((j : ℕ) → Below R M (Q j)) → Below R D h
      → (j : ℕ) → shift R a (N * D + M) (shift (Series R) h N Q j) ≡ shift (Series R) (shift R a D h) N (λ j. shift R a M (Q j)) j
  shift-both a M D zero Q h hQ hh j =
      rw (shift-zero (Series R) h Q, shift-zero (Series R) (shift R a D h) (λ j. shift R a M (Q j)), zero_s-at (Series R) j)
      (shift-null L a (0 * D + M))
  shift-both a M D (suc N) Q h hQ hh zero =
      let T : Curve R = tail (Series R) Q in
      let S : Curve R = shift (Series R) h N T in
      let e : suc N * D + M ≡ D + (N * D + M) = omega arith in
      rw (
        shift-at-zero (series L) h N Q,
        e,
        shift-add L a (D + (N * D + M)) (Q 0) (h ⊠ S 0),
        shift-mul L a D (N * D + M) h (S 0) hh (below-along M D N T h (λ j. hQ (suc j)) hh 0),
        shift-both a M D N T h (λ j. hQ (suc j)) hh 0,
        shift-more L a M (D + (N * D + M)) (Q 0) (hQ 0) (omega arith),
        shift-at-zero (series L) (shift R a D h) N (λ j. shift R a M (Q j)),
      )
  shift-both a M D (suc N) Q h hQ hh (suc j) =
      let T : Curve R = tail (Series R) Q in
      let S : Curve R = shift (Series R) h N T in
      let hS : (j : ℕ) → Below R (N * D + M) (S j) = below-along M D N T h (λ j. hQ (suc j)) hh in
      let e : suc N * D + M ≡ D + (N * D + M) = omega arith in
      rw (
        shift-at-suc (series L) h N Q j,
        e,
        shift-add L a (D + (N * D + M)) (S j) (h ⊠ S (suc j)),
        shift-mul L a D (N * D + M) h (S (suc j)) hh (hS (suc j)),
        shift-more L a (N * D + M) (D + (N * D + M)) (S j) (hS j) (omega arith),
        shift-both a M D N T h (λ j. hQ (suc j)) hh j,
        shift-both a M D N T h (λ j. hQ (suc j)) hh (suc j),
        shift-at-suc (series L) (shift R a D h) N (λ j. shift R a M (Q j)) j,
      )

  vanish-shift : (m N : ℕ) (P : Curve R) (g : Seq R) → Vanish R m P → Ord R 1 g → Vanish R m (shift (Series R) g N P)
  vanish-shift m zero P g hP hg j i l = ap (λ (Q : Curve R). Q j i) (shift-zero (Series R) g P) ∙ zero-at R j i
  vanish-shift m (suc N) P g hP hg zero i l =
      let S : Curve R = shift (Series R) g N (tail (Series R) P) in
      let ih : Vanish R (pred m) S = vanish-shift (pred m) N (tail (Series R) P) g (λ u t q. hP (suc u) t (omega arith)) hg in
      rw (shift-at-zero (series L) g N P)
      (ord-add L {n = m} {f = P 0} {g = g ⊠ S 0} (λ t q. hP 0 t (omega arith)) (λ t q. ord-mul L 1 (pred m - 0) g (S 0) hg (ih 0) t (omega arith)) i
      (omega arith))
  vanish-shift m (suc N) P g hP hg (suc j) i l =
      let S : Curve R = shift (Series R) g N (tail (Series R) P) in
      let ih : Vanish R (pred m) S = vanish-shift (pred m) N (tail (Series R) P) g (λ u t q. hP (suc u) t (omega arith)) hg in
      rw (shift-at-suc (series L) g N P j)
      (ord-add L {n = m - suc j} {f = S j} {g = g ⊠ S (suc j)} (λ t q. ih j t (omega arith))
      (λ t q. ord-mul L 1 (pred m - suc j) g (S (suc j)) hg (ih (suc j)) t (omega arith)) i l)

  module _ {n : ℕ} {a v : ℕ → R.Car} {h : Seq R} (thr : Through R n a v h) (s : ℕ) (l : s < n) (N : ℕ) (Q : Curve R) (fin : Finite R Q) where
    abbrev P : Curve R
    P = λ j. shift R (a s) fin.0 (Q j)

    -- h (x + a), and without its constant term, which is v
    abbrev η : Seq R
    η = shift R (a s) n h

    abbrev g : Seq R
    g = η ⊞ ⊟ (const_s R (v s))

    low : Ord R 1 g
    low = ord-minus_const L η (v s) (shift-value L (a s) n h ∙ thr.hits s l)

    there : shift (Series R) g N (moved R fin.0 N (a s) (v s) Q) ≡ shift (Series R) η N P
    there = shift-shift (series L) (const_s R (v s)) g N P ∙ rw sums
      where
        sums : g ⊞ const_s R (v s) ≡ η
        sums = ring (series L) (η ∷ const_s R (v s) ∷ []) (search readings depth 25) tt

    back : shift (Series R) (⊟ g) N (shift (Series R) η N P) ≡ moved R fin.0 N (a s) (v s) Q
    back = shift-shift (series L) η (⊟ g) N P ∙ rw sums
      where
        sums : ⊟ g ⊞ η ≡ const_s R (v s)
        sums = ring (series L) (η ∷ const_s R (v s) ∷ []) (search readings depth 25) tt

    pub along : (m : ℕ) → Vanish R m (moved R fin.0 N (a s) (v s) Q) → Vanish R m (λ j. shift R (a s) (N * n + fin.0) (shift (Series R) h N Q j))
    along m van j i k =
        ap (λ (f : Seq R). f i) (shift-both (a s) fin.0 n N Q h fin.1 thr.short j ∙ ap (λ (T : Curve R). T j) (sym there))
        ∙ vanish-shift m N (moved R fin.0 N (a s) (v s) Q) g van low j i k

    pub along-back : (m : ℕ) → Vanish R m (λ j. shift R (a s) (N * n + fin.0) (shift (Series R) h N Q j))
        → Vanish R m (moved R fin.0 N (a s) (v s) Q)
    along-back m van j i k =
        ap (λ (T : Curve R). T j i) (sym back)
        ∙ vanish-shift m N (shift (Series R) η N P) (⊟ g)
        (λ u t q. ap (λ (f : Seq R). f t) (sym (shift-both (a s) fin.0 n N Q h fin.1 thr.short u)) ∙ van u t q)
        (ord-neg L {n = 1} {f = g} low) j i k
