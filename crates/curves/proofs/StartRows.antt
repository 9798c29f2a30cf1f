-- The starting rows as a turn finds them: their heights, their x-polynomials at y^i, and their weights. Row 0 is a curve of demand 2,
-- so the smallest one weighs no more.
use mathlib.Core.Path.{◌≡◌, refl, sym, ap, ◌∙◌}
use mathlib.Core.Logic.{◌≢◌}
use Prim.Native.Nat.{ℕ, zero, suc, ◌+◌, ◌-◌, ◌*◌, ◌≤◌, ◌<◌, min}
use native.Mathlib.Omega.{arith}
use native.Mathlib.Decide.{dec_le}
use native.Mathlib.Nat.{sub-zero, mul-le-mul_left, mul-le-mul_right}
use Rattle.field.specs.Field.{Ring, RingLaws, pow, Field, FieldLaws}
use Rattle.field.proofs.RingLaws.{mul-one}
use Rattle.field.proofs.Sums.{pow-zero}
use Rattle.poly.specs.Polynomials.{Seq, Series, const_s, x_s, lin, Below, Through, locator}
use Rattle.poly.proofs.Series.{series}
use Rattle.poly.proofs.Degrees.{Monic, monic-same, monic-pow, monic-locator}
use Rattle.poly.proofs.Interpolation.{interpolate}
use Rattle.poly.proofs.CoprimePowers.{Distinct}
use Rattle.curves.specs.Curves.{Curve, Zero, Under, Lead, Smallest, Passing}
use Rattle.curves.specs.Start.{start_row}
use Rattle.curves.specs.Entry.{Sound}
use Rattle.curves.proofs.Promises.{Fresh}
use Rattle.curves.proofs.Spans.{span-row}
use Rattle.curves.proofs.PowerRows.{row, row-top, row-height, row-light}
use Rattle.curves.proofs.Generated.{start-passes}
use Rattle.curves.proofs.Runs.{fresh_enters}

module _ {F : Field} (Φ : FieldLaws F) where
  abbrev R : Ring
  R = F.ring

  abbrev L : RingLaws R
  L = Φ.ring

  -- E_i is monic of degree d
  module _ (m : ℕ) (E : ℕ → Seq R) (h : Seq R) (i d : ℕ) (mon : Monic R d (E i)) where
    row-nonzero : row R m E h i i d ≢ R.𝟘
    row-nonzero z = Φ.one≢zero (sym (ap (λ (f : Seq R). f d) (row-top L m E h i) ∙ mon.top) ∙ z)

    row-past : Below R (suc d) (row R m E h i i)
    row-past t k = ap (λ (f : Seq R). f t) (row-top L m E h i) ∙ mon.rest t k

    pub row-fresh : (w u W : ℕ) → Below R (suc w) h → u ≤ w → d + min i m * w + (i - m) * u ≤ W → Fresh R u W (min i m * (w - u)) i (row R m E h i)
    row-fresh w u W short le small =
        let p = ap (λ (x : ℕ). u * x) both in
        let q = ap (λ (x : ℕ). min i m * x) rise in
        record {
          height = row-height L m E h i;
          degree = d;
          top = row-nonzero;
          past = row-past;
          light = λ j t k z. row-light L m E h i d w mon.rest short u le j t (omega arith);
          within = λ j t k z. row-light L m E h i d w mon.rest short u le j t (omega arith);
        }
      where
        both : i ≡ min i m + (i - m)
        both = omega arith

        rise : w ≡ u + (w - u)
        rise = omega arith

  -- row 0 is E_0, so it leads at y^0
  pub row-first : (m : ℕ) (E : ℕ → Seq R) (h : Seq R) (d : ℕ) → Monic R d (E 0) → (u : ℕ) → Lead R u d 0 (row R m E h 0)
  row-first m E h d mon u = record { degree = d; weight = omega arith; nonzero = row-nonzero m E h 0 d mon; rest = rest }
    where
      rest : Under R u d 1 (row R m E h 0)
      rest zero t le over = row-past m E h 0 d mon t (go (dec_le (suc d) t))
        where
          go : Dec (suc d ≤ t) → suc d ≤ t
          go (yes q) = q
          go (no q) = let z = over (omega arith) in absurd (omega arith)
      rest (suc j) t le over = row-height L m E h 0 (suc j) t (omega arith)

  module _ (m : ℕ) {n : ℕ} {a v : ℕ → R.Car} {h : Seq R} (thr : Through R n a v h) where
    abbrev start : ℕ → Curve R
    start = start_row R m (locator R n a) h

    -- e^(m-i)
    abbrev e^ : ℕ → Seq R
    e^ i = pow (Series R) (locator R n a) (m - i)

    monic-e : (i : ℕ) → Monic R ((m - i) * n) (e^ i)
    monic-e i = monic-pow L n (m - i) (locator R n a) (monic-locator L n a)

    pub start-first : (u : ℕ) → Lead R u (m * n) 0 (start 0)
    unfolding start_row row
    start-first u = row-first m e^ h (m * n) (monic-same L (ap (λ (x : ℕ). x * n) (sym (sub-zero m))) refl (monic-e 0)) u

    pub start-zero : start 0 ≡ const_s (Series R) (pow (Series R) (locator R n a) m)
    unfolding start_row
    start-zero =
        let e : min 0 m ≡ 0 = omega arith in
        let z : 0 - m ≡ 0 = omega arith in
        rw (e, z, sub-zero m, pow-zero (Series (Series R)) (lin (Series R) h), pow-zero (Series (Series R)) (x_s (Series R)))
        (mul-one (series (series L)) _ ∙ mul-one (series (series L)) _)

    -- a curve of demand 2 always exists, as e^m is one
    pub start_exists : (l : ℕ) → m ≤ l → Passing R n m l a v (const_s (Series R) (pow (Series R) (locator R n a) m))
        × (Zero R (const_s (Series R) (pow (Series R) (locator R n a) m)) → ⊥)
    start_exists l ml = (
      rw start-zero at (start-passes L thr ml (span-row L 0 (omega arith))),
      λ z. let p = start-first 0 in p.nonzero (ap (λ (Q : Curve R). Q 0 p.degree) start-zero ∙ z 0 p.degree),
    )

    module _ (k l : ℕ) (pos : 0 < k) (kn : k < n) (ml : m ≤ l) where
      abbrev W : ℕ
      W = m * n + (l - m) * (k - 1)

      fits : (i : ℕ) → i ≤ l → (m - i) * n + min i m * (n - 1) + (i - m) * (k - 1) ≤ W
      fits i il =
          let p = mul-le-mul_left {m = n - 1} {n = n} (min i m) (omega arith) in
          let q = mul-le-mul_right {m = i - m} {n = l - m} (k - 1) (omega arith) in
          let r = ap (λ (x : ℕ). x * n) both in
          omega arith
        where
          both : m ≡ (m - i) + min i m
          both = omega arith

      pub start-fresh : (i : ℕ) → i ≤ l → Fresh R (k - 1) W (min i m * (n - k)) i (start i)
      unfolding start_row row
      start-fresh i il =
          rw same at (row-fresh m e^ h i ((m - i) * n) (monic-e i) (n - 1) (k - 1) W (λ t q. thr.short t (omega arith)) (omega arith) (fits i il))
        where
          same : n - 1 - (k - 1) ≡ n - k
          same = omega arith

      pub start-sound : Sound R (k - 1) W l 1 start
      start-sound = fresh_enters Φ start-fresh

-- the smallest curve weighs at most m n, since e^m is a curve of demand 2
pub smallest-weight : {F : Field} (Φ : FieldLaws F) {n m l u : ℕ} {a v : ℕ → F.ring.Car} {Q : Curve F.ring} → Distinct F.ring n a → m ≤ l
    → (S : Smallest F.ring u (Passing F.ring n m l a v) Q) → S.weight ≤ m * n
smallest-weight {F} Φ {n} {m} {l} {u} {a} {v} points ml S =
    let h = interpolate Φ n a v points in
    (S.least (start_row F.ring m (locator F.ring n a) h.0 0) (start-passes Φ.ring h.1 ml (span-row Φ.ring 0 (omega arith)))
    (m * n) 0 (start-first Φ m h.1 u)).0
