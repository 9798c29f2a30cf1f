-- The search as it is done is the search of the rules: at each level the symbols that fit open the next, and no others. Over any field it
-- is so on a curve that weighs less than W; the curve of a request does, and an answered list is what this search finds on it.
use mathlib.Core.Path.{◌≡◌, refl, sym, ap, ap₂, ◌∙◌, subst}
use mathlib.Core.Logic.{◌↔◌}
use mathlib.Core.List.{List, [], ◌∷◌, ◌++◌}
use Prim.Native.Nat.{ℕ, zero, suc, ◌+◌, ◌*◌, ◌≤◌, ◌<◌}
use native.Mathlib.Decide.{ℕ_discrete, dec_le, dec_lt}
use native.Mathlib.Omega.{arith}
use lib.ListN.{length, length-append}
use Rattle.field.specs.Field.{Field, FieldLaws}
use Rattle.field.specs.Symbols.{symbol, symbols}
use Rattle.field.specs.Choices.{choose}
use Rattle.field.proofs.Choices.{choose_yes, choose_no}
use Rattle.field.proofs.SymbolLaws.{symbols-field}
use Rattle.poly.specs.Polynomials.{value}
use Rattle.poly.specs.Table.{First}
use Rattle.poly.specs.Buffers.{Places}
use Rattle.poly.proofs.Interpolating.{places-distinct}
use Rattle.curves.specs.Curves.{Curve, Height, Lead}
use Rattle.curves.proofs.StartRows.{smallest-weight}
use Rattle.rows.specs.Bytes.{width}
use Rattle.rows.specs.Jobs.{TheCurve}
use Rattle.near.specs.Lists.{Task, polynomial, agreements}
use Rattle.near.specs.Search.{Fits, each, Searched, slice, lowest, fits?, curve_left, level, opened, found}
use Rattle.near.specs.Job.{task_of, list_table, Lists, Answers, HasListed}
use Rattle.near.specs.Job.{Near}
use Rattle.near.specs.Searching.{HasSearched}
use Rattle.near.proofs.Messages.{symbols_numbered, Numbering}
use Rattle.near.proofs.Lists.{list_unique}
use Rattle.near.proofs.Answer.{search-is-list}
use Rattle.near.proofs.Listing.{Taken, list-taken}
use Rattle.near.proofs.search.Fitting.{level-next, level-fits}
use Rattle.near.proofs.search.Found.{level-zero, branch, level-suc}

each-same : (p : ℕ) (f g : ℕ → List (List ℕ)) → ((c : ℕ) → c < p → f c ≡ g c) → each p f ≡ each p g
unfolding each
each-same zero f g h = refl
each-same (suc p) f g h = ap₂ (λ (a b : List (List ℕ)). a ++ b) (each-same p f g (λ c l. h c (omega arith))) (h p (omega arith))

-- over any field: Q has a leading term, and weighs less than W
module _ {F : Field} (Φ : FieldLaws F) (task : Task F) (num : Numbering F task.p task.element) {N u w s W : ℕ} {Q : Curve F.ring}
    (tall : Height F.ring N Q) (lead : Lead F.ring u w s Q) (inside : w < W) where
  abbrev T : List ℕ → Curve F.ring
  T x = curve_left task N [] x Q

  abbrev enough? : (x : List ℕ) → Dec (task.t ≤ agreements task task.n (polynomial task x))
  enough? x = dec_le task.t (agreements task task.n (polynomial task x))

  -- what comes of trying c, where it fits and where it does not
  branch-fits : (left : ℕ) (x : List ℕ) → length x ≤ u → (c : ℕ) → Fits F.ring N (polynomial task x) (length x) Q (task.element c)
      → branch task N W left x (T x) c ≡ level task N W left (x ++ (c ∷ [])) (T (x ++ (c ∷ [])))
  branch-fits left x h c f =
      choose_yes (fits? F N W (length x) (T x) (task.element c)) (opened task N W left x (T x) c) []
      ((level-fits Φ task num N Q tall lead inside x h c).0 f)
      ∙ level-next task N W left x c Q

  branch-other : (left : ℕ) (x : List ℕ) → length x ≤ u → (c : ℕ) → (Fits F.ring N (polynomial task x) (length x) Q (task.element c) → ⊥)
      → branch task N W left x (T x) c ≡ []
  branch-other left x h c f =
      choose_no (fits? F N W (length x) (T x) (task.element c)) (opened task N W left x (T x) c) []
      (λ z. f ((level-fits Φ task num N Q tall lead inside x h c).1 z))

  fits-or : (x : List ℕ) → length x ≤ u → (c : ℕ) → Dec (Fits F.ring N (polynomial task x) (length x) Q (task.element c))
  fits-or x h c = go (fits? F N W (length x) (T x) (task.element c)) (level-fits Φ task num N Q tall lead inside x h c)
    where
      go : {A B : Type 0} → Dec A → B ↔ A → Dec B
      go (yes a) e = yes (e.1 a)
      go (no a) e = no (λ b. a (e.0 b))

  pub level-searched : (left : ℕ) (x : List ℕ) → left + length x ≤ suc u → Searched task N Q left x (level task N W left x (T x))
  level-searched zero x h =
      rw (level-zero task N W x (T x)) (choose_yes (enough? x) (x ∷ []) [], λ l. choose_no (enough? x) (x ∷ []) [] (λ le. omega arith))
  level-searched (suc left) x h = (
    branch task N W left x (T x),
    level-suc task N W left x (T x),
    λ c l. (
      λ f. subst (Searched task N Q left (x ++ (c ∷ []))) (sym (branch-fits left x (omega arith) c f))
          (level-searched left (x ++ (c ∷ [])) (rw (length-append x (c ∷ [])) (omega arith))),
      branch-other left x (omega arith) c,
    ),
  )

  -- the search of the rules gives no other list
  pub searched-level : (left : ℕ) (x : List ℕ) (list : List (List ℕ)) → left + length x ≤ suc u → Searched task N Q left x list
      → list ≡ level task N W left x (T x)
  searched-level zero x list h q = go (enough? x) ∙ sym (level-zero task N W x (T x))
    where
      go : (d : Dec (task.t ≤ agreements task task.n (polynomial task x))) → list ≡ choose d (x ∷ []) []
      go (yes l) = q.0 l
      go (no l) = q.1 (omega arith)
  searched-level (suc left) x list h q =
      q.1
      ∙ each-same task.p q.0 (branch task N W left x (T x))
      (λ c l. same c l (searched-level left (x ++ (c ∷ [])) (q.0 c) (rw (length-append x (c ∷ [])) (omega arith))) (fits-or x (omega arith) c))
      ∙ sym (level-suc task N W left x (T x))
    where
      same : (c : ℕ) → c < task.p
          → (Searched task N Q left (x ++ (c ∷ [])) (q.0 c) → q.0 c ≡ level task N W left (x ++ (c ∷ [])) (T (x ++ (c ∷ []))))
          → Dec (Fits F.ring N (polynomial task x) (length x) Q (task.element c)) → q.0 c ≡ branch task N W left x (T x) c
      same c l next (yes f) = next ((q.2 c l).0 f) ∙ sym (branch-fits left x (omega arith) c f)
      same c l next (no f) = (q.2 c l).1 f ∙ sym (branch-other left x (omega arith) c f)

-- on the curve of a request that list accepts
module _ {p : ℕ} {points word : List ℕ} {k m l t : ℕ} {room messages : List ℕ} (taken : Taken p points word k m l t room messages)
    {Q : Curve (symbols p).ring} (smallest : TheCurve p points word k m l Q) where
  abbrev W : ℕ
  W = suc (width (length points) k m l)

  abbrev task : Task (symbols p)
  task = task_of p points word k t

  abbrev places : Places p points word
  places = taken.accepted.places

  Φ : FieldLaws (symbols p)
  Φ = symbols-field p places.size

  inside : smallest.weight < W
  inside = let w = smallest-weight Φ (places-distinct places) taken.accepted.heights.order smallest in omega arith

  -- after the symbols x, a symbol fits if and only if it passes the test that the search makes of it
  pub list-fits : (x : List ℕ) → length x < k → (c : ℕ)
      → Fits (symbols p).ring (suc l) (polynomial task x) (length x) Q (symbol p c)
      ↔ (value (symbols p).ring (symbol p c) (suc l)
      (slice (symbols p).ring (length x) (lowest (symbols p) (suc l) W (length x) (curve_left task (suc l) [] x Q)) (curve_left task (suc l) [] x Q))
      ≡ symbol p 0)
  list-fits x h c =
      level-fits Φ task (symbols_numbered places.size) (suc l) Q smallest.member.height smallest.lead inside x (omega arith) c

  found-searched : Searched task (suc l) Q k [] (found task (suc l) W Q)
  unfolding curve_left
  found-searched =
      let low = taken.accepted.low in
      level-searched Φ task (symbols_numbered places.size) smallest.member.height smallest.lead inside k [] (omega arith)

  -- the list handed over is what the search finds
  pub list-found : {before after : List ℕ} {back : Near} → smallest.weight < m * t
      → (lists : Lists p points word k m l t smallest.weight before after back) → lists.list ≡ found task (suc l) W Q
  list-found above lists =
      list_unique task (symbols_numbered places.size) lists.list (found task (suc l) W Q) lists.exactly
      (search-is-list Φ task (symbols_numbered places.size) (places-distinct places) smallest.member smallest.lead above W)

-- what an answered list leaves is what the search of the rules finds on the curve of demand 2
module _ {p : ℕ} {points word : List ℕ} {k m l t : ℕ} {room cleared messages after : List ℕ} {back : Near} where
  answers-searched : Taken p points word k m l t room messages → Answers p points word k m l t room cleared messages after back → back.number ≡ 0
      → HasSearched p points word k m l t after back
  answers-searched taken a done = go (dec_lt a.smallest.weight (m * t))
    where
      go : Dec (a.smallest.weight < m * t) → HasSearched p points word k m l t after back
      go (yes above) =
          let lists = a.lists above in
          record {
            curve = a.curve;
            smallest = a.smallest;
            list = lists.list;
            searched = rw (list-found taken a.smallest above lists) (found-searched taken a.smallest);
            count = lists.count;
            written = lists.written;
          }
      go (no below) = let e = ap (λ (x : Near). x.number) (a.unvouched (omega arith)).0 in absurd (omega arith)

  pub list-searched : HasListed p points word k m l t room cleared messages after back → back.number ≡ 0
      → HasSearched p points word k m l t after back
  list-searched h done = go (ℕ_discrete h.entry 0)
    where
      go : Dec (h.entry ≡ 0) → HasSearched p points word k m l t after back
      go (yes e) =
          let first = subst (First (list_table p points word k m l t room messages)) e h.first in
          answers-searched (list-taken p points word k m l t room messages first) (h.answers e) done
      go (no n) = absurd (n (sym (ap (λ (x : Near). x.number) (h.refused n).0) ∙ done))
