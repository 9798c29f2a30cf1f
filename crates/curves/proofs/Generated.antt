-- Corollary 14: the starting rows generate the curves of demand 2. Along h the multiplicities say that E_j, the product of
-- (x - a_s)^(m_s - j), divides the coefficient of y^j, and that is what a combination of the rows has there.
use mathlib.Core.Path.{◌≡◌, sym, ap, ◌∙◌, fun_ext}
use Prim.Native.Nat.{ℕ, suc, ◌+◌, ◌-◌, ◌*◌, ◌≤◌, ◌<◌}
use native.Mathlib.Omega.{arith}
use native.Mathlib.Decide.{dec_lt}
use Rattle.field.specs.Field.{Ring, RingLaws, Field, FieldLaws}
use Rattle.field.proofs.Sums.{pow-zero, prod-one, prod-pow}
use Rattle.poly.specs.Polynomials.{Seq, Series, neg_s, mul_s, one_s, lin, Below, Through, locator}
use Rattle.poly.proofs.Series.{series}
use Rattle.poly.proofs.Bounds.{below-same, below-neg}
use Rattle.poly.proofs.Parts.{drop, join, join-low, join-high, parts_ext}
use Rattle.poly.proofs.Shift.{shift, shift-back, shift-forth, below-shift}
use Rattle.poly.proofs.Orders.{Ord, Vanish}
use Rattle.poly.proofs.Degrees.{sum_below}
use Rattle.poly.proofs.CoprimePowers.{factor_at, factors_at, monic-factors_at, Apart, distinct-apart, Divides, factors_at-divide, factors_at-order}
use Rattle.poly.proofs.CoprimePowers.{Distinct}
use Rattle.curves.specs.Curves.{Curve, Finite, Height, Span, Passing}
use Rattle.curves.specs.Start.{start_row}
use Rattle.curves.proofs.Spans.{span-row}
use Rattle.curves.proofs.Heights.{height-below}
use Rattle.curves.proofs.MovedCurves.{moved, below-along, along, along-back}
use Rattle.curves.proofs.Multiplicities.{PassingEach, passing-each, each_passing, each_span, multiplicity_vanish, vanish-multiplicity}
use Rattle.curves.proofs.PowerRows.{row, row-finite, row-height}
use Rattle.curves.proofs.Combinations.{expanded, expanded-low, expanded-high, expanded-below, combination-is}

module _ (R : Ring) where
  -- E_i, the product of (x - a_s)^(m_s - i)
  abbrev pub row_factor : (n : ℕ) (a : ℕ → R.Car) (ms : ℕ → ℕ) → ℕ → Seq R
  row_factor n a ms i = factors_at R n a (λ s. ms s - i)

-- at each of n places a_s, a value v_s = h (a_s) and a multiplicity m_s
module _ {R : Ring} (L : RingLaws R) {n : ℕ} {a v : ℕ → R.Car} {h : Seq R} (thr : Through R n a v h) (ms : ℕ → ℕ) where
  abbrev E : ℕ → Seq R
  E = row_factor R n a ms

  module _ (N : ℕ) (Q : Curve R) (fin : Finite R Q) where
    along_bound : (j : ℕ) → Below R (N * n + fin.0) (shift (Series R) h N Q j)
    along_bound = below-along L fin.0 n N Q h fin.1 thr.short

    -- E_j divides the coefficient of y^j along h
    pub along-divides : Apart R n a → ((s : ℕ) → s < n → Vanish R (ms s) (moved R fin.0 N (a s) (v s) Q)) → (j : ℕ)
        → Divides R (N * n + fin.0 - sum_below n (λ s. ms s - j)) (E j) (shift (Series R) h N Q j)
    along-divides apart van j =
        factors_at-divide L n (N * n + fin.0) a (λ s. ms s - j) (shift (Series R) h N Q j) apart (along_bound j)
        (λ s l. along L thr s l N Q fin (ms s) (van s l) j)

  module _ (m : ℕ) (most : (s : ℕ) → s < n → ms s ≤ m) where
    factor-one : (i : ℕ) → E (m + i) ≡ one_s R
    factor-one i =
        prod-one (series L) n (λ s. factor_at R (a s) (ms s - (m + i)))
        (λ s l. let k = most s l in let z : ms s - (m + i) ≡ 0 = omega arith in rw z (pow-zero (Series R) (lin R (a s))))

    module _ (K : ℕ) (Q : Curve R) (tall : Below (Series R) (m + K) Q) (fin : Finite R Q) where
      -- Q (x, y + h), and how many powers of x it may have
      abbrev b : Curve R
      b = shift (Series R) h (m + K) Q

      abbrev M : ℕ
      M = (m + K) * n + fin.0

      vanish_span : Apart R n a → ((s : ℕ) → s < n → Vanish R (ms s) (moved R fin.0 (m + K) (a s) (v s) Q)) → Span R (m + K) (row R m E h) Q
      vanish_span apart van =
          record {
            factor = q;
            finite = λ i. (K * n + M, q-below i (dec_lt i m));
            is = sym (shift-back (series L) h (m + K) Q tall) ∙ ap (shift (Series R) (neg_s R h) (m + K)) same
                ∙ sym (combination-is L h E m K q factor-one);
          }
        where
          d : (j : ℕ) → Divides R (M - sum_below n (λ s. ms s - j)) (E j) (b j)
          d = along-divides (m + K) Q fin apart van

          low : Curve R
          low j = (d j).by

          high : Curve R
          high = shift (Series R) (neg_s R h) K (drop (Series R) m b)

          q : Curve R
          q = join (Series R) m low high

          q-below : (i : ℕ) → Dec (i < m) → Below R (K * n + M) (q i)
          q-below i (yes l) = below-same L (join-low (series L) m low high i l) (λ t k. (d i).short t (omega arith))
          q-below i (no l) =
              let e : i ≡ m + (i - m) = omega arith in
              below-same L (ap q e ∙ join-high (series L) m low high (i - m))
              (below-along L M n K (drop (Series R) m b) (neg_s R h) (λ j. along_bound (m + K) Q fin (m + j)) (below-neg L thr.short) (i - m))

          same : b ≡ expanded L h E m K q
          same =
              parts_ext (series L) m b (expanded L h E m K q)
              (λ j l. (d j).is ∙ ap (mul_s R (E j)) (sym (join-low (series L) m low high j l)) ∙ sym (expanded-low L h E m K q j l))
              (λ i. ap (λ (T : Curve R). T i)
              (sym (expanded-high L h E m K q
              ∙ ap (shift (Series R) h K) (fun_ext {f = drop (Series R) m q} {g = high} (join-high (series L) m low high)) ∙ forth)))
            where
              forth : shift (Series R) h K high ≡ drop (Series R) m b
              forth = shift-forth (series L) h K (drop (Series R) m b) (λ i l. below-shift (series L) h (m + K) Q (m + i) (omega arith))

      span_vanish : Span R (m + K) (row R m E h) Q → (s : ℕ) → s < n → Vanish R (ms s) (moved R fin.0 (m + K) (a s) (v s) Q)
      span_vanish c s l = along-back L thr s l (m + K) Q fin (ms s) (λ j. order j (dec_lt j m))
        where
          is : b ≡ expanded L h E m K c.factor
          is =
              ap (shift (Series R) h (m + K)) (c.is ∙ combination-is L h E m K c.factor factor-one)
              ∙ shift-forth (series L) h (m + K) (expanded L h E m K c.factor) (expanded-below L h E m K c.factor)

          order : (j : ℕ) → Dec (j < m) → Ord R (ms s - j) (shift R (a s) M (b j))
          order j (yes q) =
              factors_at-order L n M (c.finite j).0 a (λ s. ms s - j) (b j) (along_bound (m + K) Q fin j)
              (record { by = c.factor j; short = (c.finite j).1; is = ap (λ (T : Curve R). T j) is ∙ expanded-low L h E m K c.factor j q })
              s l
          order j (no q) = λ i k. let le = most s l in absurd (omega arith)

    module _ (l : ℕ) (ml : m ≤ l) where
      pub row-generates : Apart R n a → {Q : Curve R} → PassingEach R n ms l a v Q → Span R (suc l) (row R m E h) Q
      row-generates apart {Q} p =
          let e : m + (suc l - m) ≡ suc l = omega arith in
          rw e at (vanish_span (suc l - m) Q (rw e (height-below R p.height)) p.finite apart
          (λ s k. rw e (multiplicity_vanish L (ms s) p.finite.0 (suc l) (a s) (v s) Q (p.multiplicity s k))))

      row-passes : (i : ℕ) → i < suc l → PassingEach R n ms l a v (row R m E h i)
      row-passes i k =
          let e : m + (suc l - m) ≡ suc l = omega arith in
          let fin : Finite R (row R m E h i) =
          row-finite L m E h i (sum_below n (λ s. ms s - i)) n (monic-factors_at L n a (λ s. ms s - i)).rest
          (λ j q. thr.short j (omega arith)) in
          let tall : Height R (suc l) (row R m E h i) = λ j t q. row-height L m E h i j t (omega arith) in
          record {
            finite = fin;
            height = tall;
            multiplicity =
                λ s q. vanish-multiplicity L (ms s) fin.0 (suc l) (a s) (v s) (row R m E h i)
                (rw e at (span_vanish (suc l - m) (row R m E h i) (rw e (height-below R tall)) fin (rw e (span-row L i k)) s q));
          }

      pub row_passing : {Q : Curve R} → Span R (suc l) (row R m E h) Q → PassingEach R n ms l a v Q
      row_passing c = each_span L row-passes c

-- one multiplicity for all places
module _ {R : Ring} (L : RingLaws R) where
  -- E_i is e^(m-i)
  start-is : (n m : ℕ) (a : ℕ → R.Car) (h : Seq R) → row R m (row_factor R n a (λ _. m)) h ≡ start_row R m (locator R n a) h
  unfolding row start_row
  start-is n m a h = ap (λ (E : ℕ → Seq R). row R m E h) (fun_ext (λ i. prod-pow (series L) n (m - i) (λ s. lin R (a s))))

  pub start-passes : {n m l : ℕ} {a v : ℕ → R.Car} {h : Seq R} → Through R n a v h → m ≤ l → {Q : Curve R}
      → Span R (suc l) (start_row R m (locator R n a) h) Q → Passing R n m l a v Q
  start-passes {n} {m} {l} {a} {v} {h} thr ml c = each_passing (row_passing L thr (λ _. m) m (λ s k. omega arith) l ml (rw (start-is n m a h) c))

pub start-generates : {F : Field} (Φ : FieldLaws F) {n m l : ℕ} {a v : ℕ → F.ring.Car} {h : Seq F.ring} → Distinct F.ring n a
    → Through F.ring n a v h → m ≤ l
    → {Q : Curve F.ring} → Passing F.ring n m l a v Q → Span F.ring (suc l) (start_row F.ring m (locator F.ring n a) h) Q
start-generates Φ {n} {m} {l} {a} {v} {h} inj thr ml p =
    rw (start-is Φ.ring n m a h) at (row-generates Φ.ring thr (λ _. m) m (λ s k. omega arith) l ml (distinct-apart Φ n a inj) (passing-each p))
