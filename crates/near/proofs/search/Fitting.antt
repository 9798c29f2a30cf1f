-- Which symbols fit. Below its least v the slices of T are zero, and there it is not, if T is not zero: so a root of the slice at v is
-- a symbol that fits, as the rules say it. A root's next symbol is one. The curve that the search keeps, the symbols chosen one by
-- one, is this T: so its test is whether the symbol fits.
use mathlib.Core.Path.{◌≡◌, refl, sym, ap, ◌∙◌, fun_ext}
use mathlib.Core.Logic.{◌↔◌}
use mathlib.Core.Bool.{Bool, true, false, true≢false}
use mathlib.Core.List.{List, [], ◌∷◌, ◌++◌, append-nil}
use Prim.Native.Nat.{ℕ, zero, suc, ◌+◌, ◌-◌, ◌*◌, ◌≤◌, ◌<◌, zero-le}
use native.Mathlib.Nat.{add-sub_cancel, mul-le-mul_right}
use native.Mathlib.Omega.{arith}
use native.Mathlib.Decide.{dec_le, dec_lt}
use lib.ListN.{length}
use lib.Seq.{append_snoc}
use Rattle.field.specs.Field.{Ring, RingLaws, Field, FieldLaws}
use Rattle.poly.specs.Polynomials.{Seq, zero_s, add_s, neg_s, mul_s, Series, Below, value, mono}
use Rattle.poly.proofs.Series.{series, zero_s-at}
use Rattle.poly.proofs.Shift.{shift, shift-null, shift-shift, shift-none, shift-back, below-shift}
use Rattle.poly.proofs.Orders.{Ord}
use Rattle.curves.specs.Curves.{Curve, Height, Zero, Under, Lead}
use Rattle.curves.proofs.Heights.{zero-at, height-below, below-height}
use Rattle.curves.proofs.Leads.{under-mono, lead-nonzero}
use Rattle.curves.proofs.Weights.{under-shift}
use Rattle.near.specs.Lists.{Task, polynomial}
use Rattle.near.specs.Search.{Fits, chosen, slice, least, some?, lowest, curve_left, level, opened}
use Rattle.near.proofs.Messages.{polynomial_beyond, polynomial_snoc, Numbering}
use Rattle.near.proofs.search.Steps.{slice-at, slice_beyond, prefixed-slice, root-symbol}
use Rattle.near.proofs.search.LowestPower.{some-none, some-one}
use Rattle.near.proofs.search.Passes.{chosen-shift}

-- all before the least fail, and the least passes
record Least (W : ℕ) (test : ℕ → Bool) (v : ℕ) : Type 0 where
  inside : v ≤ W
  before : (i : ℕ) → i < v → test i ≡ false
  passes : v < W → test v ≡ true

least-is : (W : ℕ) (test : ℕ → Bool) → Least W test (least W test)
unfolding least
least-is zero test = record { inside = omega arith; before = λ i l. absurd (omega arith); passes = λ l. absurd (omega arith) }
least-is (suc W) test = go (test 0) refl (least-is W (λ v. test (suc v)))
  where
    go : (b : Bool) → test 0 ≡ b → Least W (λ v. test (suc v)) (least W (λ v. test (suc v)))
        → Least (suc W) test (elim b as (λ _. ℕ) [ true ↦ 0 | false ↦ suc (least W (λ v. test (suc v))) ])
    go true e h = record { inside = omega arith; before = λ i l. absurd (omega arith); passes = λ l. e }
    go false e h =
        let k = h.inside in
        record { inside = omega arith; before = before; passes = λ l. h.passes (omega arith) }
      where
        before : (i : ℕ) → i < suc (least W (λ v. test (suc v))) → test i ≡ false
        before zero l = e
        before (suc i) l = h.before i (omega arith)

module _ (F : Field) where
  some-false : (N : ℕ) (f : Seq F.ring) → some? F N f ≡ false → Ord F.ring N f
  some-false N f e j l = go (F.same? (f j) F.ring.𝟘)
    where
      go : Dec (f j ≡ F.ring.𝟘) → f j ≡ F.ring.𝟘
      go (yes z) = z
      go (no z) = absurd (true≢false (sym (some-one F N f j l z) ∙ e))

  some-true : (N : ℕ) (f : Seq F.ring) → some? F N f ≡ true → Ord F.ring N f → ⊥
  some-true N f e o = true≢false (sym e ∙ some-none F N f o)

module _ (R : Ring) where
  -- the slices of T begin at v
  pub record Begins (i v : ℕ) (T : Curve R) : Type 0 where
    pub none : (e j : ℕ) → e < v → slice R i e T j ≡ R.𝟘
    pub some : ((j : ℕ) → slice R i v T j ≡ R.𝟘) → ⊥

  pub begins_unique : {i v w : ℕ} {T : Curve R} → Begins i v T → Begins i w T → v ≡ w
  begins_unique {i} {v} {w} b c = go (dec_lt v w) (dec_lt w v)
    where
      go : Dec (v < w) → Dec (w < v) → v ≡ w
      go (yes l) d = absurd (b.some (λ j. c.none v j l))
      go (no l) (yes k) = absurd (c.some (λ j. b.none w j k))
      go (no l) (no k) = omega arith

module _ {F : Field} (Φ : FieldLaws F) (N W : ℕ) where
  abbrev R : Ring
  R = F.ring

  abbrev L : RingLaws R
  L = Φ.ring

  module _ {T : Curve R} (tall : Height R N T) (i : ℕ) where
    slice-tall : (e j : ℕ) → N ≤ j → slice R i e T j ≡ R.𝟘
    slice-tall e j l = go (dec_le (i * j) e)
      where
        go : Dec (i * j ≤ e) → slice R i e T j ≡ R.𝟘
        go (yes k) = slice-at L i e T j k ∙ tall j (e - i * j) l
        go (no k) = slice_beyond L i e T j (omega arith)

    lowest-none : (e j : ℕ) → e < lowest F N W i T → slice R i e T j ≡ R.𝟘
    lowest-none e j l = go (dec_lt j N)
      where
        go : Dec (j < N) → slice R i e T j ≡ R.𝟘
        go (yes k) = some-false F N (slice R i e T) ((least-is W (λ v. some? F N (slice R i v T))).before e l) j k
        go (no k) = slice-tall e j (omega arith)

    pub lowest-begins : {u : ℕ} → i ≤ u → Under R u W 0 T → (Zero R T → ⊥) → Begins R i (lowest F N W i T) T
    lowest-begins {u} iu light some =
        let h = least-is W (λ v. some? F N (slice R i v T)) in
        record {
          none = lowest-none;
          some = λ z. some-true F N (slice R i (lowest F N W i T) T) (h.passes (go (dec_lt (lowest F N W i T) W) h.inside)) (λ j l. z j);
        }
      where
        null : W ≤ lowest F N W i T → (j e : ℕ) → Dec (W ≤ e + u * j) → T j e ≡ R.𝟘
        null b j e (yes k) = light j e k (λ _. zero-le)
        null b j e (no k) =
            let q : i * j ≤ u * j = mul-le-mul_right j iu in
            ap (T j) (sym (add-sub_cancel e (i * j))) ∙ sym (slice-at L i (e + i * j) T j (omega arith))
            ∙ lowest-none (e + i * j) j (omega arith)

        go : Dec (lowest F N W i T < W) → lowest F N W i T ≤ W → lowest F N W i T < W
        go (yes k) h = k
        go (no k) h = absurd (some (λ j e. null (omega arith) j e (dec_le W (e + u * j))))

  -- the next symbol of a root of Q that begins with the i symbols of g is a root of the lowest slice
  pub root-fits : (g f : Seq R) (i : ℕ) (Q : Curve R) → value (Series R) (add_s R (mul_s R (mono R R.𝟙 i) f) g) N Q ≡ zero_s R
      → value R (f 0) N (slice R i (lowest F N W i (shift (Series R) g N Q)) (shift (Series R) g N Q)) ≡ R.𝟘
  root-fits g f i Q root =
      root-symbol L N g f i Q (lowest F N W i (shift (Series R) g N Q)) root (lowest-none (below-height R (below-shift
      (series L) g N Q)) i)

  -- for a curve of weight below W: the roots of the lowest slice are the symbols that fit
  module _ {u w s : ℕ} {Q : Curve R} (tall : Height R N Q) (lead : Lead R u w s Q) (inside : w < W) {g : Seq R} (short : Below R
      (suc u) g) {i : ℕ}
      (iu : i ≤ u) where
    abbrev T : Curve R
    T = shift (Series R) g N Q

    begins : Begins R i (lowest F N W i T) T
    begins =
        lowest-begins (below-height R (below-shift (series L) g N Q)) i iu
        (under-shift L u W N Q g short (under-mono R u w (suc s) W 0 Q (omega arith) (λ q. absurd (omega arith)) lead.rest)) some
      where
        some : Zero R T → ⊥
        some z =
            let e : T ≡ zero_s (Series R) = fun_ext (λ j. fun_ext (λ d. z j d ∙ sym (zero_s-at R d)) ∙ sym (zero_s-at (Series R) j)) in
            let q : Q ≡ zero_s (Series R) =
            sym (shift-back (series L) g N Q (height-below R tall)) ∙ rw e (shift-null (series L) (neg_s R g) N) in
            lead-nonzero lead (λ j d. ap (λ (P : Curve R). P j d) q ∙ zero-at R j d)

    slice-fits : (c : R.Car) → value R c N (slice R i (lowest F N W i T) T) ≡ R.𝟘 → Fits R N g i Q c
    slice-fits c z =
        record {
          power = lowest F N W i T;
          divides = λ j e l. prefixed-slice L N g i Q j e ∙ begins.none e j l;
          highest = λ n. begins.some (λ j. sym (prefixed-slice L N g i Q j (lowest F N W i T)) ∙ n j);
          root = ap (value R c N) (fun_ext (λ j. prefixed-slice L N g i Q j (lowest F N W i T))) ∙ z;
        }

    fits-slice : (c : R.Car) → Fits R N g i Q c → value R c N (slice R i (lowest F N W i T) T) ≡ R.𝟘
    fits-slice c h =
        let b : Begins R i h.power T =
        record {
          none = λ e j l. sym (prefixed-slice L N g i Q j e) ∙ h.divides j e l;
          some = λ n. h.highest (λ j. prefixed-slice L N g i Q j h.power ∙ n j);
        } in
        ap (λ v. value R c N (slice R i v T)) (begins_unique R begins b)
        ∙ ap (value R c N) (fun_ext (λ j. sym (prefixed-slice L N g i Q j h.power))) ∙ h.root

-- with c chosen, the search goes on from Q as the symbols x leave it to Q as x and c leave it
module _ {F : Field} (task : Task F) (N : ℕ) where
  left_snoc : (x y : List ℕ) (c : ℕ) (T : Curve F.ring)
      → curve_left task N x (y ++ (c ∷ [])) T ≡ chosen F.ring N (length (x ++ y)) (task.element c) (curve_left task N x y T)
  unfolding curve_left
  left_snoc x [] c T = rw (append-nil x) refl
  left_snoc x (b ∷ y) c T = rw (← append_snoc x b y) (left_snoc (x ++ (b ∷ [])) y c (chosen F.ring N (length x) (task.element b) T))

  pub level-next : (W left : ℕ) (x : List ℕ) (c : ℕ) (Q : Curve F.ring)
      → opened task N W left x (curve_left task N [] x Q) c ≡ level task N W left (x ++ (c ∷ [])) (curve_left task N [] (x ++ (c ∷ [])) Q)
  level-next W left x c Q = ap (level task N W left (x ++ (c ∷ []))) (sym (left_snoc [] x c Q))

module _ {F : Field} (Φ : FieldLaws F) (task : Task F) (num : Numbering F task.p task.element) (N : ℕ) (Q : Curve F.ring) where
  shift-left : (x y : List ℕ)
      → curve_left task N x y (shift (Series F.ring) (polynomial task x) N Q) ≡ shift (Series F.ring) (polynomial task (x ++ y)) N Q
  unfolding curve_left
  shift-left x [] = rw (append-nil x) refl
  shift-left x (c ∷ y) =
      rw (
        chosen-shift F.ring N (length x) (task.element c) (shift (Series F.ring) (polynomial task x) N Q),
        shift-shift (series Φ.ring) (polynomial task x) (mono F.ring (task.element c) (length x)) N Q,
        ← polynomial_snoc Φ task num x c,
        ← append_snoc x c y,
      )
      (shift-left (x ++ (c ∷ [])) y)

  -- Q as the symbols x leave it is Q at y = g + y, where they form g
  pub left-shift : Height F.ring N Q → (x : List ℕ) → curve_left task N [] x Q ≡ shift (Series F.ring) (polynomial task x) N Q
  left-shift tall x = ap (curve_left task N [] x) (sym none) ∙ shift-left [] x
    where
      zeros : polynomial task [] ≡ zero_s F.ring
      zeros = fun_ext (λ i. num.null ∙ sym (zero_s-at F.ring i))

      none : shift (Series F.ring) (polynomial task []) N Q ≡ Q
      none = rw zeros (shift-none (series Φ.ring) N Q (height-below F.ring tall))

  -- a symbol fits after the symbols x if and only if it passes the test that the search makes of it
  pub level-fits : {u w s W : ℕ} → Height F.ring N Q → Lead F.ring u w s Q → w < W → (x : List ℕ) → length x ≤ u → (c : ℕ)
      → Fits F.ring N (polynomial task x) (length x) Q (task.element c)
      ↔ (value F.ring (task.element c) N
      (slice F.ring (length x) (lowest F N W (length x) (curve_left task N [] x Q)) (curve_left task N [] x Q)) ≡ F.ring.𝟘)
  level-fits {u} {w} {s} {W} tall lead inside x iu c =
      rw (left-shift tall x)
      (fits-slice Φ N W tall lead inside short iu (task.element c), slice-fits Φ N W tall lead inside short iu (task.element c))
    where
      short : Below F.ring (suc u) (polynomial task x)
      short i l = polynomial_beyond task num x i (omega arith)
