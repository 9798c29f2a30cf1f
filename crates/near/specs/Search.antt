-- The search for the near messages, symbol by symbol, on a curve Q with no power from y^N on and of weight below W. Rules: section 12.
--   curve_at N s Q      Q at y = s
--   prefixed g i        g + x^i y
--   Fits N g i Q c      c fits after the i symbols that form g: it is a root, at x = 0, of Q at y = g + x^i y divided by its highest power
--                       of x
--   each p f            f 0, .., f (p-1), one after the other
--   Searched task N Q left x list   the list is what the search gives after the symbols x, where `left` symbols are still to be chosen: each
--                       next symbol is tried, a fitting one opens the next level and any other gives nothing; at the end the agreements decide
-- The search as it is done keeps one curve, T = Q at y = g + y, and reads from it which symbols fit: `level`, below. It finds what the search
-- of the rules gives, and nothing else does: `level-searched`, `searched-level`; for the list: `list-searched` (proofs/Searching.antt).
--   chosen N i c T      T at y = c x^i + y: what T becomes when c is chosen as the symbol at x^i
--   slice i v T         the coefficient of x^v in T at y = x^i y, as a polynomial in y
--   least W test        the least number below W that passes the test, or W
--   some? N f           whether one of the first N coefficients is not zero
--   lowest N W i T      the least v below W at which it is not zero
--   fits? N W i T c     whether c is a root of it there
--   curve_left task N x y T     the curve T as the symbols y leave it, chosen one by one after x; `curve_left task N [] x Q` is Q as the
--                       symbols x leave it
--   level task N W left x T    the messages found that begin with x, where T is what x leaves and `left` symbols are still to be chosen:
--                       each next symbol is tried, and each fitting one opens the next level; at the end the agreements decide
--   opened task N W left x T c  those found with c chosen after x
--   found task N W Q    all messages found
use Rattle.std.specs.Prelude.{◌≡◌, Bool, true, false, List, [], ◌∷◌, ◌++◌, ℕ, zero, suc, ◌-◌, ◌*◌, ◌≤◌, ◌<◌, length}
use Rattle.std.proofs.Math.Decide.{dec_le}
use Rattle.field.specs.Field.{Ring, Field}
use Rattle.field.specs.Choices.{choose}
use Rattle.poly.specs.Polynomials.{Seq, Series, one_s, cons_s, const_s, value, mono}
use Rattle.curves.specs.Curves.{Curve}
use Rattle.near.specs.Lists.{Task, polynomial, agreements}

module _ (R : Ring) where
  unfoldable pub curve_at : ℕ → Curve R → Curve R → Curve R
  curve_at N s Q = value (Series (Series R)) s N (λ j. const_s (Series R) (Q j))

  abbrev pub prefixed : Seq R → ℕ → Curve R
  prefixed g i = cons_s (Series R) g (const_s (Series R) (mono R R.𝟙 i))

  pub record Fits (N : ℕ) (g : Seq R) (i : ℕ) (Q : Curve R) (c : R.Car) : Type 0 where
    pub power : ℕ
    pub divides : (j e : ℕ) → e < power → curve_at N (prefixed g i) Q j e ≡ R.𝟘
    pub highest : ((j : ℕ) → curve_at N (prefixed g i) Q j power ≡ R.𝟘) → ⊥
    pub root : value R c N (λ j. curve_at N (prefixed g i) Q j power) ≡ R.𝟘

unfoldable pub each : ℕ → (ℕ → List (List ℕ)) → List (List ℕ)
each zero f = []
each (suc p) f = each p f ++ f p

module _ {F : Field} (task : Task F) (N : ℕ) (Q : Curve F.ring) where
  abbrev pub Searched : ℕ → List ℕ → List (List ℕ) → Type 0
  Searched zero x list =
      (task.t ≤ agreements task task.n (polynomial task x) → list ≡ x ∷ [])
      × (agreements task task.n (polynomial task x) < task.t → list ≡ [])
  Searched (suc left) x list =
      (messages : ℕ → List (List ℕ))
      × (list ≡ each task.p messages)
      × ((c : ℕ) → c < task.p
      → (Fits F.ring N (polynomial task x) (length x) Q (task.element c) → Searched left (x ++ (c ∷ [])) (messages c))
      × ((Fits F.ring N (polynomial task x) (length x) Q (task.element c) → ⊥) → messages c ≡ []))

module _ (R : Ring) where
  abbrev pub chosen : ℕ → ℕ → R.Car → Curve R → Curve R
  chosen N i c T = curve_at R N (cons_s (Series R) (mono R c i) (one_s (Series R))) T

  unfoldable pub slice : ℕ → ℕ → Curve R → Seq R
  slice i v T j = choose (dec_le (i * j) v) (T j (v - i * j)) R.𝟘

unfoldable pub least : ℕ → (ℕ → Bool) → ℕ
least zero test = 0
least (suc W) test = elim (test 0) [ true ↦ 0 | false ↦ suc (least W (λ v. test (suc v))) ]

module _ (F : Field) where
  unfoldable pub some? : ℕ → Seq F.ring → Bool
  some? zero f = false
  some? (suc N) f = choose (F.same? (f N) F.ring.𝟘) (some? N f) true

  abbrev pub lowest : ℕ → ℕ → ℕ → Curve F.ring → ℕ
  lowest N W i T = least W (λ v. some? N (slice F.ring i v T))

  abbrev pub fits? : (N W i : ℕ) (T : Curve F.ring) (c : F.ring.Car)
      → Dec (value F.ring c N (slice F.ring i (lowest N W i T) T) ≡ F.ring.𝟘)
  fits? N W i T c = F.same? (value F.ring c N (slice F.ring i (lowest N W i T) T)) F.ring.𝟘

module _ {F : Field} (task : Task F) (N : ℕ) where
  unfoldable pub curve_left : List ℕ → List ℕ → Curve F.ring → Curve F.ring
  curve_left x [] T = T
  curve_left x (c ∷ y) T = curve_left (x ++ (c ∷ [])) y (chosen F.ring N (length x) (task.element c) T)

module _ {F : Field} (task : Task F) (N W : ℕ) where
  unfoldable pub level : ℕ → List ℕ → Curve F.ring → List (List ℕ)
  level zero x T = choose (dec_le task.t (agreements task task.n (polynomial task x))) (x ∷ []) []
  level (suc left) x T =
      each task.p
      (λ c. choose (fits? F N W (length x) T (task.element c)) (level left (x ++ (c ∷ [])) (chosen F.ring N (length x) (task.element c) T)) [])

  abbrev pub opened : ℕ → List ℕ → Curve F.ring → ℕ → List (List ℕ)
  opened left x T c = level left (x ++ (c ∷ [])) (chosen F.ring N (length x) (task.element c) T)

  abbrev pub found : Curve F.ring → List (List ℕ)
  found Q = level task.k [] Q
