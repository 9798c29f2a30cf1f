-- Curves: polynomials in x and y, one x-polynomial for each power of y. With u = k - 1, the term x^i y^j weighs i + u j. Rules: sections 3 and 4.
--   Curve R          Q j i is the coefficient of x^i y^j
--   Finite Q         no power of x from some x^M on
--   Height h Q       no power of y from y^h on
--   HasHeight Q j    the largest power of y in the nonzero curve Q is j
--   Zero Q           the zero curve
--   AtMost w s v t   a term of weight w and power s of y is not larger than one of weight v and power t
--   Under u w s Q    every term of Q that is not smaller than one of weight w and power s of y is zero
--   Lead u w s Q     the leading term of Q has weight w and power s of y
--   LeadsAt u s Q    Q leads at y^s
--   x_times q Q      the x-polynomial q times Q
--   Span n rows Q    Q is a sum of the first n rows, each times a polynomial in x
--   Smallest         of the curves of a set, the monic nonzero one with the smallest leading term
-- Multiplicity at a point is by the coefficients of Q (x + a, y + b), with their binomials.
--   shifted M N a b Q i j     the coefficient of x^i y^j in Q (x + a, y + b), Q having no power from x^M and none from y^N on
--   Multiplicity m M N a b Q  every such coefficient with i + j < m is zero
--   Passing n m l a v Q       Q is zero or one of the curves of demand 2: height at most l, and at each of the n received points
--                             (a_s, v_s) multiplicity at least m
use Rattle.std.specs.Prelude.{◌≡◌, ◌≢◌, ℕ, suc, ◌+◌, ◌-◌, ◌*◌, ◌≤◌, ◌<◌}
use Rattle.field.specs.Field.{Ring, pow, multiple, sum}
use Rattle.poly.specs.Polynomials.{Seq, Series, scale_s, Below, binomial}

-- terms go by weight first; of two that weigh the same the larger power of y is the larger term
abbrev pub AtMost : ℕ → ℕ → ℕ → ℕ → Type 0
AtMost w s v t = (w ≤ v) × (v ≤ w → s ≤ t)

module _ (R : Ring) where
  abbrev pub Curve : Type 0
  Curve = Seq (Series R)

  abbrev pub Finite : Curve → Type 0
  Finite Q = (M : ℕ) × ((j : ℕ) → Below R M (Q j))

  abbrev pub Height : ℕ → Curve → Type 0
  Height h Q = (j i : ℕ) → h ≤ j → Q j i ≡ R.𝟘

  pub record HasHeight (Q : Curve) (j : ℕ) : Type 0 where
    pub above : Height (suc j) Q
    pub some : (i : ℕ) × (Q j i ≢ R.𝟘)

  abbrev pub Zero : Curve → Type 0
  Zero Q = (j i : ℕ) → Q j i ≡ R.𝟘

  abbrev pub Under : ℕ → ℕ → ℕ → Curve → Type 0
  Under u w s Q = (j i : ℕ) → w ≤ i + u * j → (i + u * j ≤ w → s ≤ j) → Q j i ≡ R.𝟘

  pub record Lead (u w s : ℕ) (Q : Curve) : Type 0 where
    pub degree : ℕ
    pub weight : degree + u * s ≡ w
    pub nonzero : Q s degree ≢ R.𝟘
    pub rest : Under u w (suc s) Q

  abbrev pub LeadsAt : ℕ → ℕ → Curve → Type 0
  LeadsAt u s Q = (w : ℕ) × Lead u w s Q

  abbrev pub x_times : Seq R → Curve → Curve
  x_times q Q = scale_s (Series R) q Q

  pub record Span (n : ℕ) (rows : ℕ → Curve) (Q : Curve) : Type 0 where
    pub factor : ℕ → Seq R
    pub finite : (i : ℕ) → (N : ℕ) × Below R N (factor i)
    pub is : Q ≡ sum (Series (Series R)) n (λ i. x_times (factor i) (rows i))

  pub record Smallest (u : ℕ) (Member : Curve → Type 0) (Q : Curve) : Type 0 where
    pub member : Member Q
    pub weight : ℕ
    pub power : ℕ
    pub lead : Lead u weight power Q
    pub leading_one : Q power lead.degree ≡ R.𝟙
    pub least : (P : Curve) → Member P → (v t : ℕ) → Lead u v t P → AtMost weight power v t

  unfoldable pub shifted : ℕ → ℕ → R.Car → R.Car → Curve → ℕ → ℕ → R.Car
  shifted M N a b Q i j =
      sum R N
      (λ s. multiple R (binomial s j) (R.times (pow R b (s - j)) (sum R M (λ r. multiple R (binomial r i) (R.times (pow R a (r - i)) (Q s r))))))

  abbrev pub Multiplicity : ℕ → ℕ → ℕ → R.Car → R.Car → Curve → Type 0
  Multiplicity m M N a b Q = (i j : ℕ) → i + j < m → shifted M N a b Q i j ≡ R.𝟘

  pub record Passing (n m l : ℕ) (a v : ℕ → R.Car) (Q : Curve) : Type 0 where
    pub finite : Finite Q
    pub height : Height (suc l) Q
    pub multiplicity : (s : ℕ) → s < n → Multiplicity m finite.0 (suc l) (a s) (v s) Q
