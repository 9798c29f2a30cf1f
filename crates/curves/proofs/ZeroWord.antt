-- For the all-zero word h is 0, so e^(m-t) divides the coefficient of y^t of every curve of demand 2. As e has degree n > u, no such
-- curve has a smaller leading term than y^m.
use mathlib.Core.Path.{◌≡◌, sym, ap, ◌∙◌, refl}
use Prim.Native.Nat.{ℕ, suc, ◌+◌, ◌-◌, ◌*◌, ◌≤◌, ◌<◌, min}
use native.Mathlib.Nat.{sub_self, mul-le-mul_left}
use native.Mathlib.Omega.{arith}
use native.Mathlib.Decide.{dec_le, ℕ_discrete}
use Rattle.field.specs.Field.{Ring, RingLaws, pow, Field, FieldLaws}
use Rattle.field.proofs.RingLaws.{mul-one, one-mul, neg-zero}
use Rattle.field.proofs.Sums.{pow-zero, prod-pow}
use Rattle.poly.specs.Polynomials.{Seq, Series, zero_s, one_s, x_s, lin, Through, locator}
use Rattle.poly.proofs.Series.{series, zero_s-at}
use Rattle.poly.proofs.Constants.{x_plus, x_plus-none, x_plus-neg, const-one, power-same, power-other}
use Rattle.poly.proofs.Bounds.{below-null, below-one}
use Rattle.poly.proofs.Evaluation.{value-null}
use Rattle.poly.proofs.Shift.{shift-none}
use Rattle.poly.proofs.Degrees.{sum_below, monic-pow, monic-locator}
use Rattle.poly.proofs.CoprimePowers.{Divides, distinct-apart, divides-degree, Distinct}
use Rattle.curves.specs.Curves.{Curve, Lead, AtMost, Smallest, Passing}
use Rattle.curves.specs.Start.{start_row}
use Rattle.curves.proofs.Spans.{span-row}
use Rattle.curves.proofs.Heights.{height-below}
use Rattle.curves.proofs.Multiplicities.{multiplicity_vanish}
use Rattle.curves.proofs.Generated.{along-divides, start-passes}

module _ {F : Field} (Φ : FieldLaws F) where
  abbrev R : Ring
  R = F.ring

  abbrev L : RingLaws R
  L = Φ.ring

  module _ {n : ℕ} {a : ℕ → R.Car} (inj : Distinct R n a) (u m l : ℕ) (un : u < n) (ml : m ≤ l) where
    abbrev Member : Curve R → Type 0
    Member = Passing R n m l a (λ _. R.𝟘)

    abbrev e^ : ℕ → Seq R
    e^ i = pow (Series R) (locator R n a) (m - i)

    abbrev y^ : ℕ → Curve R
    y^ i = pow (Series (Series R)) (x_s (Series R)) i

    thr : Through R n a (λ _. R.𝟘) (zero_s R)
    thr = record { short = below-null L n; hits = λ s k. value-null L (a s) n }

    member-degree : (P : Curve R) → Member P → (v t : ℕ) (p : Lead R u v t P) → (m - t) * n ≤ p.degree
    member-degree P mem v t p =
        divides-degree Φ ((m - t) * n) N p.degree (e^ t) (P t) (monic-pow L n (m - t) (locator R n a) (monic-locator L n a)) divides
        (record { lead = p.nonzero; rest = λ i k. let w = p.weight in p.rest t i (omega arith) (λ q. absurd (omega arith)) })
      where
        N : ℕ
        N = suc l * n + mem.finite.0 - sum_below n (λ s. m - t)

        divides : Divides R N (e^ t) (P t)
        divides = rw (prod-pow (series L) n (m - t) (λ s. lin R (a s)), shift-none (series L) (suc l) P (height-below R mem.height)) at
            (along-divides L thr (λ _. m) (suc l) P mem.finite (distinct-apart Φ n a inj)
            (λ s k. multiplicity_vanish L m mem.finite.0 (suc l) (a s) R.𝟘 P (mem.multiplicity s k)) t)

    -- y^m is row m of the start
    start-is : start_row R m (locator R n a) (zero_s R) m ≡ y^ m
    unfolding start_row
    start-is =
        let e : min m m ≡ m = omega arith in
        rw (sub_self m, e, pow-zero (Series R) (locator R n a), const-one (series L), flat, pow-zero (Series (Series R)) (x_s (Series R)))
        (mul-one (series (series L)) _ ∙ one-mul (series (series L)) _)
      where
        flat : lin (Series R) (zero_s R) ≡ x_s (Series R)
        flat = sym (x_plus-neg (Series R) (zero_s R)) ∙ ap (x_plus (Series R)) (neg-zero (series L)) ∙ x_plus-none (Series R)

    top : y^ m m 0 ≡ R.𝟙
    unfolding one_s
    top = ap (λ (f : Seq R). f 0) (power-same (series L) m)

    rest : (j t : ℕ) → (t + u * j ≤ u * m → suc m ≤ j) → u * m ≤ t + u * j → Dec (j ≡ m) → y^ m j t ≡ R.𝟘
    rest j t over le (no ne) = ap (λ (f : Seq R). f t) (power-other (series L) m j ne) ∙ zero_s-at R t
    rest j t over le (yes e) = rw (e, power-same (series L) m) (below-one L t (past (dec_le 1 t)))
      where
        past : Dec (1 ≤ t) → 1 ≤ t
        past (yes q) = q
        past (no q) = let f = ap (λ (x : ℕ). u * x) e in let o = over (omega arith) in absurd (omega arith)

    pub smallest-zero-word : Smallest R u Member (y^ m)
    smallest-zero-word =
        record {
          member = rw start-is at (start-passes L thr ml (span-row L m (omega arith)));
          weight = u * m;
          power = m;
          lead =
              record {
                degree = 0;
                weight = omega arith;
                nonzero = λ z. Φ.one≢zero (sym top ∙ z);
                rest = λ j t le over. rest j t over le (ℕ_discrete j m);
              };
          leading_one = top;
          least = λ P mem v t p. least v t p.degree p.weight (member-degree P mem v t p) (dec_le m t);
        }
      where
        least : (v t d : ℕ) → d + u * t ≡ v → (m - t) * n ≤ d → Dec (m ≤ t) → AtMost (u * m) m v t
        least v t d w le (yes q) = let f = mul-le-mul_left {m = m} {n = t} u q in (omega arith, λ _. q)
        least v t d w le (no q) =
            let f = mul-le-mul_left {m = suc u} {n = n} (m - t) (omega arith) in
            let both : m ≡ m - t + t = omega arith in
            let g = ap (λ (x : ℕ). u * x) both in
            (omega arith, λ r. absurd (omega arith))

    pub zero-word-weight : smallest-zero-word.weight ≡ u * m
    unfolding smallest-zero-word
    zero-word-weight = refl
