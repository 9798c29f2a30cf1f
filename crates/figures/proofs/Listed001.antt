-- The list for the word 0, 0, 1 at the points 1, 2, 3. The curve weighs 2. A message with three agreements would be h, which has degree 2.
use mathlib.Core.Path.{◌≡◌, refl, sym, ap, ◌∙◌}
use mathlib.Core.List.Memᴰ
use mathlib.Core.List.{List, [], ◌∷◌}
use Prim.Native.Nat.{ℕ, zero, suc, ◌+◌, ◌≤◌, ◌<◌, zero-le}
use native.Mathlib.Decide.{ℕ_discrete}
use native.Mathlib.Omega.{arith}
use lib.ListN.{length}
use lib.Seq.{ext_get_or}
use Rattle.field.specs.Choices.{choose}
use Rattle.field.specs.Field.{Field}
use Rattle.field.specs.Symbols.{Element, symbol, symbols, symbols_of}
use Rattle.poly.specs.Polynomials.{Seq, value}
use Rattle.poly.specs.Limits.{working_room}
use Rattle.poly.proofs.Evaluation.{value-more}
use Rattle.poly.proofs.TableLaws.{first_determined}
use Rattle.curves.proofs.Least.{weight_unique}
use Rattle.near.specs.Lists.{Task, polynomial, In, agreements, Wanted}
use Rattle.near.specs.Job.{task_of, list_table, refusal, RuleUpdates, Answers, HasListed}
use Rattle.near.specs.Job.{Near}
use Rattle.near.proofs.Determined.{updates_unique, near-same}
use Rattle.near.proofs.Agreements.{agrees?, agreements-zero, agreements-suc}
use Rattle.figures.specs.Figures.{three, at_three, word_0_0_1, ListGives}
use Rattle.figures.proofs.Computed.{seven-laws, at-places, at-three}
use Rattle.figures.proofs.Numbers.{list-goes}
use Rattle.figures.proofs.Calls.{start_for, worked-smallest}
use Rattle.figures.proofs.Word001.{h, h-is, formula-is-one, worked_0_0_1}

-- n agreements at n places are one at each
module _ {F : Field} (task : Task F) (g : Seq F.ring) where
  abbrev Agrees : ℕ → Type 0
  Agrees s = value F.ring (task.point s) task.k g ≡ task.received s

  choose-most : {A : Type 0} (d : Dec A) → choose d 1 0 ≤ 1
  choose-most (yes h) = omega arith
  choose-most (no h) = omega arith

  agreements-most : (n : ℕ) → agreements task n g ≤ n
  agreements-most zero = rw (agreements-zero task g) zero-le
  agreements-most (suc n) = let a = agreements-most n in let b = choose-most (agrees? task g n) in omega (arith, agreements-suc task g n)

  agreements-all : (n : ℕ) → n ≤ agreements task n g → (s : ℕ) → s < n → Agrees s
  agreements-all zero le s h = absurd (omega arith)
  agreements-all (suc n) le s h = go (agrees? task g n) (rw (agreements-suc task g n) at le) (ℕ_discrete s n) (λ a k. agreements-all n a s k)
    where
      go : (d : Dec (Agrees n)) → suc n ≤ agreements task n g + choose d 1 0 → Dec (s ≡ n) → (n ≤ agreements task n g → s < n → Agrees s) → Agrees s
      go (yes e) le (yes q) more = rw q e
      go (yes e) le (no q) more = more (omega arith) (omega arith)
      go (no e) le q more = let m = agreements-most n in absurd (omega arith)

abbrev task : Task (symbols 7)
task = task_of 7 three word_0_0_1 2 3

-- a message has no x^2, and h has 4 x^2
nobody : (g : Seq (symbols 7).ring) → Wanted task g → ⊥
unfolding symbol
nobody g want =
    let same : g ≡ h = (h-is g).0 (record {
      short = λ i l. want.degree i (omega arith);
      hits = λ s l. value-more seven-laws.ring (symbols_of 7 three s) 2 3 g want.degree (omega arith)
          ∙ agreements-all task g 3 want.agrees s l;
    }) in
    let e : ◌≡◌ {A = ℕ} 4 0 = ap (λ (x : Element 7). x.byte) (ap (λ (f : Seq (symbols 7).ring). f 2) (sym same) ∙ want.degree 2 (omega arith)) in
    omega arith

empty : (list : List (List ℕ)) → ((x : List ℕ) → In x list → Wanted task (polynomial task x)) → list ≡ []
empty [] wanted = refl
empty (x ∷ list) wanted = absurd (nobody (polynomial task x) (wanted x (Memᴰ.head refl)))

-- an answer, whose curve weighs 2
told : {t : ℕ} {room zeroed before after : List ℕ} {back : Near} → 1 ≤ t → t ≤ 3 → working_room ≤ length room → 2 ≤ length before
    → HasListed 7 three word_0_0_1 2 1 1 t room zeroed before after back
    → (a : Answers 7 three word_0_0_1 2 1 1 t room zeroed before after back) × (a.smallest.weight ≡ 2)
told {t} {room} {before = before} some most large long listed =
    let known = at-three word_0_0_1 room {m = 1} refl tt (omega arith) (omega arith) (omega arith) in
    let entry =
    first_determined (list_table 7 three word_0_0_1 2 1 1 t room before) listed.entry 0 listed.first
    (list-goes known t room before some most large (omega arith)) in
    let s = worked-smallest known worked_0_0_1 in
    (listed.answers entry, weight_unique (listed.answers entry).smallest s.0 ∙ s.1)

-- the rule makes one update
rule : RuleUpdates 7 three word_0_0_1 2 1 1 1
rule =
    record {
      h = worked_0_0_1.h;
      through = worked_0_0_1.through;
      allowance = 1;
      outcome = _;
      turn = worked_0_0_1.turn 1 (omega (arith, formula-is-one)) (start_for (at_three word_0_0_1 1) worked_0_0_1.h) (λ i k. refl);
      finished = refl;
      are = refl;
    }

pub list_2 : ListGives 2 (refusal 13)
list_2 room zeroed before after back large long listed =
    let (a, w) = told (omega arith) (omega arith) large long listed in a.unvouched (omega arith)

pub list_3 : ListGives 3 (record { number = 0; count = 0; updates = 1; weight = 2 })
list_3 room zeroed before after back large long listed =
    let (a, w) = told (omega arith) (omega arith) large long listed in
    let lists = a.lists (omega arith) in
    let none = empty lists.list lists.exactly.wanted in
    let made = updates_unique (at-places word_0_0_1 refl tt) lists.updates_are rule in
    let rest = rw none at lists.rest in (
      near-same lists.done (lists.count ∙ ap length none) made (lists.weight_is ∙ w),
      ext_get_or 0 after before rest.long (λ i k. rest.same i zero-le),
    )
