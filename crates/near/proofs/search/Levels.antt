-- The levels of the search on bytes. A level has done the symbols below c: what these found stands after what was there before, and the
-- curve and the symbols chosen are as they were. What opens with c is the last symbol's message, or the next level on the shifted curve.
use mathlib.Core.Path.{◌≡◌, refl, sym, ap, subst, ◌∙◌}
use mathlib.Core.Bool.{Bool, true, false}
use mathlib.Core.Logic.{⊎_elim}
use mathlib.Core.List.{List, [], ◌∷◌, ◌++◌, append-nil, append_assoc}
use Prim.Native.Nat.{ℕ, zero, suc, ◌+◌, ◌-◌, ◌*◌, ◌≤◌, ◌<◌}
use native.Mathlib.Nat.{eq-or-lt_of_le, mul-le-mul_right, zero-add, zero-mul, add-mul}
use native.Mathlib.Numerals.{add-one}
use native.Mathlib.Decide.{dec_le, ℕ_discrete}
use native.Mathlib.Omega.{arith}
use lib.ListN.{length, get_or, take, set, length-append, length-set, get_or-append}
use lib.Seq.{sets, length-sets, sets-eq, take-suc-set, take-set-le, take-take, take_at, get_or-append_seam}
use Rattle.field.specs.Symbols.{symbol, symbols}
use Rattle.field.specs.Operations.{neg_byte}
use Rattle.field.specs.Field.{Field}
use Rattle.field.specs.Choices.{choose}
use Rattle.field.proofs.OperationLaws.{neg_byte-below}
use Rattle.field.proofs.Lists.{sets-append, get_or-sets-after}
use Rattle.field.proofs.Choices.{choose_yes, choose_no}
use Rattle.poly.specs.Buffers.{Decided}
use Rattle.curves.specs.Curves.{Curve}
use Rattle.near.specs.Lists.{Task, Spelt, polynomial, agreements}
use Rattle.near.specs.Search.{chosen as choice, lowest, fits?, each, level}
use Rattle.near.specs.Job.{flat}
use Rattle.near.specs.Work.{curve_of, RootAt, Tries, Shifted, task_for, after, with, kept, Searches, Room, Wrote, Leaves, found_on, Runs, Ran}
use Rattle.near.specs.declared.search.Plan.{Plan}
use Rattle.near.proofs.search.Found.{level-zero, level-suc, branch}
use Rattle.near.proofs.search.Shifting.{shifted-back}
use Rattle.near.proofs.search.Keeping.{wrote-none}

each-suc : (f : ℕ → List (List ℕ)) (c : ℕ) → each (c + 1) f ≡ each c f ++ f c
unfolding each
each-suc f c = rw add-one

pub each-none : (f : ℕ → List (List ℕ)) → each 0 f ≡ []
unfolding each
each-none f = refl

-- what is found with fewer symbols is no more
each-mono : (f : ℕ → List (List ℕ)) (a b : ℕ) → a ≤ b → length (each a f) ≤ length (each b f)
unfolding each
each-mono f a zero h = let e : a ≡ 0 = omega arith in rw e (omega arith)
each-mono f a (suc b) h =
    ⊎_elim (λ (e : a ≡ suc b). rw e (omega arith)) (λ (k : a < suc b). simp length-append (omega (arith, each-mono f a b (omega arith))))
    (eq-or-lt_of_le h)

-- lists of messages of k symbols each
flat-append : (l r : List (List ℕ)) → flat (l ++ r) ≡ flat l ++ flat r
flat-append [] r = refl
flat-append (x ∷ l) r = rw (flat-append l r, append_assoc)

pub record Blocks (k : ℕ) (list : List (List ℕ)) : Type 0 where
  pub long : length (flat list) ≡ length list * k

blocks-none : {k : ℕ} → Blocks k []
blocks-none {k} = record { long = sym (zero-mul k) }

blocks-append : {k : ℕ} {l r : List (List ℕ)} → Blocks k l → Blocks k r → Blocks k (l ++ r)
blocks-append {k} {l} {r} a b =
    record {
      long = rw (
        flat-append l r,
        length-append (flat l) (flat r),
        length-append l r,
        a.long,
        b.long,
        add-mul (length l) (length r) k,
      );
    }

blocks-choose : {k : ℕ} {A : Type 0} (d : Dec A) {l : List (List ℕ)} → Blocks k l → Blocks k (choose d l [])
blocks-choose (yes h) b = b
blocks-choose (no h) b = blocks-none

blocks-each : {k : ℕ} (n : ℕ) {f : ℕ → List (List ℕ)} → ((c : ℕ) → Blocks k (f c)) → Blocks k (each n f)
unfolding each
blocks-each zero b = blocks-none
blocks-each (suc n) b = blocks-append (blocks-each n b) (b n)

module _ {F : Field} (task : Task F) (N W : ℕ) where
  level_blocks : (left : ℕ) (x : List ℕ) (T : Curve F.ring) → Blocks (length x + left) (level task N W left x T)
  level_blocks zero x T =
      rw (level-zero task N W x T) (blocks-choose (dec_le task.t (agreements task task.n (polynomial task x))) {l = x ∷ []} record
      { long = rw append-nil (omega arith) })
  level_blocks (suc left) x T =
      rw (level-suc task N W left x T)
      (blocks-each task.p
      (λ c. blocks-choose (fits? F N W (length x) T (task.element c))
      (longer c (level_blocks left (x ++ (c ∷ [])) (choice F.ring N (length x) (task.element c) T)))))
    where
      longer : (c : ℕ) {l : List (List ℕ)} → Blocks (length (x ++ (c ∷ [])) + left) l → Blocks (length x + suc left) l
      longer c b = let e : length (x ++ (c ∷ [])) + left ≡ length x + suc left = rw (length-append x (c ∷ [])) (omega arith) in rw e at b

-- one list written after another
wrote-more : {plan : Plan} {count n r : ℕ} {l m : List (List ℕ)} {xs ys zs : List ℕ} → Wrote plan count l xs ys n → Blocks plan.k l
    → Wrote plan n m ys zs r → Wrote plan count (l ++ m) xs zs r
wrote-more {plan} {count} {n} {r} {l} {m} {xs} {ys} {zs} a b c =
    let t = a.total in
    let u = c.total in
    let e : n * plan.k ≡ count * plan.k + length (flat l) = ap (λ (q : ℕ). q * plan.k) t ∙ rw b.long (add-mul count (length l) plan.k) in
    record {
      total = rw (length-append l m) (omega arith);
      written = c.written ∙ rw (a.written, e, flat-append l m) (sym (sets-append xs (count * plan.k) (flat l) (flat m)));
    }

spelt_snoc : {p i c : ℕ} {x : List ℕ} → Spelt p i x → c < p → Spelt p (suc i) (x ++ (c ∷ []))
spelt_snoc {p} {i} {c} {x} s h =
    let l = s.long in
    record { long = rw (length-append x (c ∷ [])) (omega arith); small = λ j k. go j k (ℕ_discrete j i) }
  where
    go : (j : ℕ) → j < suc i → Dec (j ≡ i) → get_or (x ++ (c ∷ [])) j 0 < p
    go j k (yes e) = let z : j ≡ length x = e ∙ sym s.long in rw (z, get_or-append_seam x c [] 0) h
    go j k (no e) = let l = s.long in rw (get_or-append x (c ∷ []) 0 j (omega arith)) (s.small j (omega arith))

-- the powers of y and the weights that the curve can have
abbrev tall : Plan → ℕ
tall plan = suc plan.shape.l

abbrev wide : Plan → ℕ
wide plan = suc plan.shape.width

-- what comes of trying c as the next of the symbols left
abbrev pub tried : (plan : Plan) (points word curve chosen : List ℕ) (left : ℕ) → ℕ → List (List ℕ)
tried plan points word curve chosen left =
    branch (task_for plan points word) (tall plan) (wide plan) (left - 1) (take (plan.k - left) chosen) (curve_of plan.shape curve)

-- how a level's loop stands: the symbols below c are done
pub record Going (plan : Plan) (points word curve₀ chosen₀ messages₀ : List ℕ) (left count : ℕ) (curve chosen messages : List ℕ)
    (found c : ℕ) : Type 0 where
  pub upto : c ≤ plan.shape.p
  pub long : length chosen ≡ length chosen₀
  pub leaves : Leaves plan left count (each c (tried plan points word curve₀ chosen₀ left)) curve₀ curve chosen₀ chosen messages₀ messages
      found

module _ {plan : Plan} {points word curve₀ chosen₀ : List ℕ} {left : ℕ} (s : Searches plan points word curve₀ chosen₀ left) where
  abbrev i : ℕ
  i = plan.k - left

  pub next-below : i ≤ plan.shape.u
  next-below = let n = s.some in let m = s.most in let d = s.received.degree in omega arith

  next-up : plan.k - (left - 1) ≡ suc i
  next-up = let n = s.some in let m = s.most in omega arith

  abbrev try : ℕ → List (List ℕ)
  try = tried plan points word curve₀ chosen₀ left

  after-each : after plan points word curve₀ chosen₀ left ≡ each plan.shape.p try
  after-each =
      let n = s.some in
      let e : left ≡ suc (left - 1) = omega arith in
      ap (λ (q : ℕ). level (task_for plan points word) (tall plan) (wide plan) q (take i chosen₀) (curve_of plan.shape curve₀)) e
      ∙ level-suc (task_for plan points word) (tall plan) (wide plan) (left - 1) (take i chosen₀) (curve_of plan.shape curve₀)

  try_blocks : (c : ℕ) → Blocks plan.k (try c)
  try_blocks c =
      let n = s.some in
      let m = s.most in
      let l = s.spelt.long in
      let e : length (take i chosen₀ ++ (c ∷ [])) + (left - 1) ≡ plan.k = rw (length-append (take i chosen₀) (c ∷ [])) (omega arith) in
      blocks-choose (fits? (symbols plan.shape.p) (tall plan) (wide plan) (length (take i chosen₀)) (curve_of plan.shape curve₀)
      (symbol plan.shape.p c))
      (rw e at (level_blocks (task_for plan points word) (tall plan) (wide plan) (left - 1) (take i chosen₀ ++ (c ∷ []))
      (choice (symbols plan.shape.p).ring (tall plan) (length (take i chosen₀)) (symbol plan.shape.p c) (curve_of plan.shape curve₀))))

  -- whether c fits, at the power of x that the code found
  module _ {low : ℕ} (least : low ≡ lowest (symbols plan.shape.p) (tall plan) (wide plan) i (curve_of plan.shape curve₀)) (c : ℕ) where
    abbrev fits : Dec (RootAt plan.shape curve₀ (length (take i chosen₀))
        (lowest (symbols plan.shape.p) (tall plan) (wide plan) (length (take i chosen₀)) (curve_of plan.shape curve₀)) c)
    fits =
        fits? (symbols plan.shape.p) (tall plan) (wide plan) (length (take i chosen₀)) (curve_of plan.shape curve₀) (symbol plan.shape.p c)

    try-fits : RootAt plan.shape curve₀ i low c → try c ≡ with plan points word curve₀ chosen₀ left c
    try-fits h = choose_yes fits (with plan points word curve₀ chosen₀ left c) [] (rw s.spelt.long (rw least at h))

    try-fails : (RootAt plan.shape curve₀ i low c → ⊥) → try c ≡ []
    try-fails h = choose_no fits (with plan points word curve₀ chosen₀ left c) [] (λ d. h (rw least (rw s.spelt.long at d)))

  pub going-none : {messages₀ : List ℕ} {count : ℕ} → Going plan points word curve₀ chosen₀ messages₀ left count curve₀ chosen₀ messages₀
      count 0
  going-none = record {
    upto = omega arith;
    long = refl;
    leaves = record {
      same = refl;
      front = refl;
      wrote = wrote-none (each-none try);
    };
  }

  module _ {messages₀ curve chosen messages : List ℕ} {count found c : ℕ}
      (g : Going plan points word curve₀ chosen₀ messages₀ left count curve chosen messages found c) where
    pub going_searches : Searches plan points word curve chosen left
    going_searches =
        record {
          received = s.received;
          laid = rw g.leaves.same s.laid;
          some = s.some;
          most = s.most;
          long = let l = g.long in let k = s.long in omega arith;
          spelt = rw g.leaves.front s.spelt;
        }

    with_now : with plan points word curve chosen left c ≡ with plan points word curve₀ chosen₀ left c
    with_now = rw (g.leaves.same, g.leaves.front)

    pub going-messages : length messages ≡ length messages₀
    going-messages = ap length g.leaves.wrote.written ∙ length-sets messages₀ (count * plan.k) (flat (each c try))

    -- the test that the code made, on the curve as it is now
    module _ {low : ℕ} (least : low ≡ lowest (symbols plan.shape.p) (tall plan) (wide plan) i (curve_of plan.shape curve₀)) {r : Bool}
        (test : Decided r (RootAt plan.shape curve i low c)) where
      pub fitting : r ≡ true → try c ≡ with plan points word curve₀ chosen₀ left c
      fitting e = try-fits least c (rw g.leaves.same at (test.holds e))

      pub failing : r ≡ false → try c ≡ []
      failing e = try-fails least c (λ d. test.fails e (rw g.leaves.same d))

    module _ (h : c < plan.shape.p) where
      pub opens : try c ≡ with plan points word curve₀ chosen₀ left c → Room plan count
          (after plan points word curve₀ chosen₀ left) messages₀
          → Room plan found (with plan points word curve chosen left c) messages
      opens e room =
          let t = g.leaves.wrote.total in
          let m = going-messages in
          let l : length (each (c + 1) try) ≡ length (each c try) + length (with plan points word curve₀ chosen₀ left c) =
          rw (each-suc try c, length-append (each c try) (try c), e) in
          let a = each-mono try (c + 1) plan.shape.p (omega arith) in
          let r : (count + length (each plan.shape.p try)) * plan.k ≤ length messages₀ = rw after-each at room.enough in
          let b : (found + length (with plan points word curve₀ chosen₀ left c)) * plan.k ≤ (count + length
          (each plan.shape.p try)) * plan.k =
          mul-le-mul_right plan.k (omega arith) in
          record { enough = rw with_now (omega arith) }

      pub grown : {curve' chosen' messages' : List ℕ} {r : ℕ} → try c ≡ with plan points word curve₀ chosen₀ left c → length chosen'
          ≡ length chosen
          → Leaves plan left found (with plan points word curve chosen left c) curve curve' chosen chosen' messages messages' r
          → Going plan points word curve₀ chosen₀ messages₀ left count curve' chosen' messages' r (c + 1)
      grown e n o =
          record {
            upto = omega arith;
            long = n ∙ g.long;
            leaves =
                record {
                  same = o.same ∙ g.leaves.same;
                  front = o.front ∙ g.leaves.front;
                  wrote = rw (each-suc try c, e) (wrote-more g.leaves.wrote (blocks-each c try_blocks) (rw with_now at o.wrote));
                };
          }

      pub passed : try c ≡ [] → Going plan points word curve₀ chosen₀ messages₀ left count curve chosen messages found (c + 1)
      passed e = record { upto = omega arith; long = g.long; leaves = rw (each-suc try c, e, append-nil) g.leaves }

    pub going-all : c ≡ plan.shape.p
        → Leaves plan left count (after plan points word curve₀ chosen₀ left) curve₀ curve chosen₀ chosen messages₀ messages found
    going-all e = rw after-each (rw e at g.leaves)

  -- what opens with c
  module _ {c : ℕ} (h : c < plan.shape.p) where
    abbrev chosen₁ : List ℕ
    chosen₁ = set chosen₀ i c

    front-one : take (suc i) chosen₁ ≡ take i chosen₀ ++ (c ∷ [])
    front-one = let n = s.some in let m = s.most in let l = s.long in take-suc-set chosen₀ i c (omega arith)

    spelt-one : Spelt plan.shape.p (suc i) (take (suc i) chosen₁)
    spelt-one = rw front-one (spelt_snoc s.spelt h)

    pub front-kept : take i chosen₁ ≡ take i chosen₀
    front-kept = take-set-le i chosen₀ i c (omega arith)

    -- the last symbol
    last : left ≡ 1 → suc i ≡ plan.k
    last e = let m = s.most in omega arith

    pub spelt-last : left ≡ 1 → Spelt plan.shape.p plan.k (take plan.k chosen₁)
    spelt-last e = subst (λ (n : ℕ). Spelt plan.shape.p n (take n chosen₁)) (last e) spelt-one

    pub with-last : left ≡ 1 → kept plan points word chosen₁ ≡ with plan points word curve₀ chosen₀ left c
    with-last e =
        let y : take plan.k chosen₁ ≡ take i chosen₀ ++ (c ∷ []) = ap (λ (n : ℕ). take n chosen₁) (sym (last e)) ∙ front-one in
        let z : left - 1 ≡ 0 = omega arith in
        rw (y, z)
        (sym (level-zero (task_for plan points word) (tall plan) (wide plan) (take i chosen₀ ++ (c ∷ []))
        (choice (symbols plan.shape.p).ring (tall plan) (length (take i chosen₀)) (symbol plan.shape.p c) (curve_of plan.shape curve₀))))

    -- any other
    module _ {curve₁ : List ℕ} (shift : Shifted plan.shape i c curve₀ curve₁) where
      pub with-next : after plan points word curve₁ chosen₁ (left - 1) ≡ with plan points word curve₀ chosen₀ left c
      with-next = rw (next-up, front-one, shift.curve, s.spelt.long)

      pub next_searches : 1 < left → Searches plan points word curve₁ chosen₁ (left - 1)
      next_searches n =
          record {
            received = s.received;
            laid = shift.laid;
            some = omega arith;
            most = let m = s.most in omega arith;
            long = rw (length-set chosen₀ i c) s.long;
            spelt = rw next-up spelt-one;
          }

      module _ {curve₂ chosen₂ messages messages₂ : List ℕ} {count r : ℕ}
          (rest : Leaves plan (left - 1) count (after plan points word curve₁ chosen₁
          (left - 1)) curve₁ curve₂ chosen₁ chosen₂ messages messages₂ r)
          {n : ℕ} (less : n ≡ neg_byte plan.shape.p c) where
        pub back_tries : Tries plan.shape i n curve₂
        back_tries =
            record { laid = rw rest.same shift.laid; next = next-below; small = rw less (neg_byte-below s.received.size c) }

        pub back-leaves : {curve₃ : List ℕ} → Shifted plan.shape i n curve₂ curve₃
            → Leaves plan left count (with plan points word curve₀ chosen₀ left c) curve₀ curve₃ chosen₀ chosen₂ messages messages₂ r
        back-leaves back =
            record {
              same = shifted-back s.laid shift (rw (less, rest.same) at back);
              front = sym (take-take i (suc i) chosen₂ (omega arith)) ∙ ap (take i) (rw next-up at rest.front)
                  ∙ take-take i (suc i) chosen₁ (omega arith) ∙ front-kept;
              wrote = rw with-next at rest.wrote;
            }

-- the whole search, on the plan that is made of a request
module _ {plan request : Plan} (is : plan ≡ request) {points word curve messages : List ℕ}
    (asked : Runs request points word curve messages) where
  runs : Runs plan points word curve messages
  runs = rw is asked

  first : plan.k - plan.k ≡ 0
  first = omega arith

  -- whatever `chosen` holds, none of it counts yet
  first-after : (chosen : List ℕ) → after plan points word curve chosen plan.k ≡ found_on plan points word curve
  first-after chosen = rw first

  module _ {curve' chosen chosen' messages' : List ℕ} {r : ℕ}
      (leaves : Leaves plan plan.k 0 (after plan points word curve chosen plan.k) curve curve' chosen chosen' messages messages' r) where
    abbrev list : List (List ℕ)
    list = found_on plan points word curve

    total : r ≡ length list
    total = leaves.wrote.total ∙ rw (first-after chosen) (zero-add (length list))

    written : messages' ≡ sets messages 0 (flat list)
    written = leaves.wrote.written ∙ rw (first-after chosen, zero-mul plan.k)

    pub few : r ≤ request.shape.l
    few = let t = total in let f = runs.few in rw (← is) (omega arith)

    made : Ran plan.k list messages messages' r
    made =
        let e : length (flat list) ≡ length list * plan.k =
        rw zero-add at (level_blocks (task_for plan points word) (tall plan) (wide plan) plan.k [] (curve_of plan.shape curve)).long in
        let a : length list * plan.k ≤ plan.shape.l * plan.k = mul-le-mul_right plan.k runs.few in
        let h : 0 + length (flat list) ≤ length messages = let m = runs.room in omega arith in
        record {
          count = total;
          written =
              rw (← e) (ap (take (length (flat list))) (written ∙ sets-eq (flat list) messages 0 h)
              ∙ take_at (flat list) _ (length (flat list)) refl);
          rest =
              record {
                long = ap length written ∙ length-sets messages 0 (flat list);
                same = λ q k. ap (λ (l : List ℕ). get_or l q 0) written ∙ get_or-sets-after messages 0 (flat list) q 0 (omega arith);
              };
        }

    pub ran : Ran request.k (found_on request points word curve) messages messages' r
    ran = rw (← is) made
