-- A message at the end of the search: its agreements are counted place by place, and it is written byte by byte.
use mathlib.Core.Path.{◌≡◌, refl, sym, ap, ◌∙◌}
use mathlib.Core.Bool.{Bool, true, false}
use mathlib.Core.List.{List, [], ◌∷◌, append-nil}
use Prim.Native.Nat.{ℕ, zero, suc, ◌+◌, ◌-◌, ◌*◌, ◌≤◌, ◌<◌}
use native.Mathlib.Nat.{add-zero}
use native.Mathlib.Numerals.{add-one}
use native.Mathlib.Decide.{dec_le}
use native.Mathlib.Omega.{arith}
use lib.ListN.{length, get_or, take}
use lib.Dec.{eqb}
use lib.Seq.{sets, sets-eq, take-length}
use borrow.Author.Tests.{eqb-true, eqb-false}
use borrow.Rule.Slice.PartMut.{put_mid}
use Rattle.std.specs.List.{zip, filter, count_by}
use Rattle.std.proofs.lemmas.List.{take_all, get_or_default}
use Rattle.std.proofs.lemmas.List.Sums.{length-filter, count_by_more_yes, count_by_more_no}
use Rattle.std.proofs.lemmas.Slice.{put_mid-paste}
use Rattle.std.proofs.lemmas.Slice.Zip.{length-zip, get_or-zip}
use Rattle.field.specs.Symbols.{Element, symbol, same-byte, symbols}
use Rattle.field.proofs.SymbolLaws.{symbol-own}
use Rattle.field.proofs.Choices.{choose_yes, choose_no}
use Rattle.poly.specs.Polynomials.{value}
use Rattle.poly.specs.Encode.{value_at}
use Rattle.poly.specs.Buffers.{Coefficients}
use Rattle.near.specs.Lists.{Task, Spelt, polynomial, agreements}
use Rattle.near.specs.Work.{Received, task_for, kept, Room, Wrote}
use Rattle.near.specs.declared.search.Plan.{Plan}
use Rattle.near.proofs.Agreements.{agrees?, agreements-zero, agreements-suc}

module _ {plan : Plan} {points word message : List ℕ} (received : Received plan points word) (spelt : Spelt plan.shape.p plan.k message)
    {s : ℕ} (inside : s < length points) where
  abbrev task : Task (symbols plan.shape.p)
  task = task_for plan points word

  pub place_asks : Coefficients plan.shape.p (get_or points s 0) message
  place_asks =
      let l = spelt.long in
      record { size = received.size; point = received.points_below s inside; below = λ i h. spelt.small i (omega arith) }

  -- the message's value at the point, and the symbol received there, by their bytes
  value-is : value_at plan.shape.p message (get_or points s 0)
      ≡ value (symbols plan.shape.p).ring (task.point s) plan.k (polynomial task message)
  value-is =
      ap (λ (n : ℕ). value (symbols plan.shape.p).ring (symbol plan.shape.p (get_or points s 0)) n (polynomial task message)) spelt.long

  received-is : (task.received s).byte ≡ get_or word s 0
  received-is = let l = received.same in symbol-own plan.shape.p (received.word_below s (omega arith))

  abbrev count : ℕ → ℕ
  count n = agreements task n (polynomial task message)

  pub agrees : {v : ℕ} → v ≡ (value_at plan.shape.p message (get_or points s 0)).byte → v ≡ get_or word s 0 → count (suc s) ≡ count s + 1
  agrees {v} e d =
      agreements-suc task (polynomial task message) s
      ∙ ap (λ (n : ℕ). count s + n)
      (choose_yes (agrees? task (polynomial task message) s) 1 0 (sym value-is ∙ same-byte plan.shape.p (sym e ∙ d ∙ sym received-is)))

  pub differs : {v : ℕ} → v ≡ (value_at plan.shape.p message (get_or points s 0)).byte → (v ≡ get_or word s 0 → ⊥) → count (suc s)
      ≡ count s
  differs {v} e d =
      agreements-suc task (polynomial task message) s
      ∙ ap (λ (n : ℕ). count s + n)
      (choose_no (agrees? task (polynomial task message) s) 1 0
      (λ h. d (e ∙ ap (λ (x : Element plan.shape.p). x.byte) (value-is ∙ h) ∙ received-is)))
      ∙ add-zero (count s)

-- whether the message takes at the point the value received, as the code compares them
abbrev pub agrees_at : Plan → List ℕ → ℕ × ℕ → Bool
agrees_at plan message place = eqb (value_at plan.shape.p message place.0).byte place.1

module _ {plan : Plan} {points word message : List ℕ} (received : Received plan points word) (spelt : Spelt plan.shape.p plan.k message) where
  counted-first : (s : ℕ) → s ≤ length points → agreements (task_for plan points word) s (polynomial (task_for plan points word) message)
      ≡ count_by (agrees_at plan message) (take s (zip points word))
  counted-first zero h = agreements-zero (task_for plan points word) (polynomial (task_for plan points word) message)
  counted-first (suc s) h = go (agrees_at plan message (get_or points s 0, get_or word s 0)) refl (counted-first s (omega arith))
    where
      Counted : ℕ → Type 0
      Counted n = agreements (task_for plan points word) n (polynomial (task_for plan points word) message)
          ≡ count_by (agrees_at plan message) (take n (zip points word))

      place : get_or (zip points word) s (0, 0) ≡ (get_or points s 0, get_or word s 0)
      place = let e = received.same in get_or-zip points word s (0, 0) (omega arith) (omega arith)

      inside : s < length (zip points word)
      inside = let e = received.same in rw length-zip (omega arith)

      go : (b : Bool) → agrees_at plan message (get_or points s 0, get_or word s 0) ≡ b → Counted s → Counted (suc s)
      go true e before =
          agrees received spelt (omega arith) refl (eqb-true _ _ e) ∙ ap (λ (n : ℕ). n + 1) before
          ∙ sym (rw add-one at (count_by_more_yes (agrees_at plan message) (zip points word) s (0, 0) inside (rw place e)))
      go false e before =
          differs received spelt (omega arith) refl (eqb-false _ _ e) ∙ before
          ∙ sym (rw add-one at (count_by_more_no (agrees_at plan message) (zip points word) s (0, 0) inside (rw place e)))

  -- a place of the word, as an iteration over it gives it
  pub given_asks : {x : ℕ × ℕ} {k : ℕ} → k < length (zip points word) → x ≡ get_or (zip points word) k x
      → Coefficients plan.shape.p x.0 message
  given_asks {x} {k} h e =
      let same = received.same in
      let l = rw length-zip at h in
      let i : k < length points = omega arith in
      let at : x.0 ≡ get_or points k 0 =
      ap (λ (q : ℕ × ℕ). q.0) (e ∙ get_or-zip points word k x i (omega arith)) ∙ get_or_default points k x.0 0 i in
      rw at (place_asks received spelt i)

  -- all places that agree
  pub counted : length (filter (agrees_at plan message) (zip points word))
      ≡ agreements (task_for plan points word) (length points) (polynomial (task_for plan points word) message)
  counted = let e = received.same in
      length-filter (agrees_at plan message) (zip points word) ∙ sym (counted-first (length points) (omega arith)
      ∙ ap (count_by (agrees_at plan message)) (take_all (length points) (zip points word) (rw length-zip (omega arith))))

-- what is kept of the message
module _ (plan : Plan) (points word chosen : List ℕ) {a : ℕ}
    (count : a ≡ agreements (task_for plan points word) (length points) (polynomial (task_for plan points word)
    (take plan.k chosen))) where
  pub kept-none : a < plan.t → kept plan points word chosen ≡ []
  kept-none h =
      choose_no (dec_le plan.t
      (agreements (task_for plan points word) (length points) (polynomial (task_for plan points word) (take plan.k chosen))))
      (take plan.k chosen ∷ []) [] (λ k. omega arith)

  pub kept-one : plan.t ≤ a → kept plan points word chosen ≡ take plan.k chosen ∷ []
  kept-one h =
      choose_yes (dec_le plan.t
      (agreements (task_for plan points word) (length points) (polynomial (task_for plan points word) (take plan.k chosen))))
      (take plan.k chosen ∷ []) [] (omega arith)

-- the bytes xs, copied to `at`
pub copied : (messages : List ℕ) (at : ℕ) {xs ys : List ℕ} {k : ℕ} → length xs ≡ k → at + k ≤ length messages → ys ≡ xs
    → put_mid at (at + k - at) messages ys ≡ sets messages at xs
copied messages at {xs} {ys} {k} long inside is =
    put_mid-paste at (at + k - at) messages ys xs (length xs) is (omega arith) refl
    ∙ rw take-length (sym (sets-eq xs messages at (omega arith)))

-- with none, and with one, after `count`
module _ {plan : Plan} {count : ℕ} {list : List (List ℕ)} {messages : List ℕ} where
  pub wrote-none : list ≡ [] → Wrote plan count list messages messages count
  wrote-none e = rw e record { total = sym (add-zero count); written = refl }

  module _ {x : List ℕ} (e : list ≡ x ∷ []) where
    pub room-one : Room plan count list messages → count * plan.k + plan.k ≤ length messages
    room-one room = let r : (count + 1) * plan.k ≤ length messages = rw e at room.enough in omega arith

    pub wrote-one : {after : List ℕ} → after ≡ sets messages (count * plan.k) x → Wrote plan count list messages after (count + 1)
    wrote-one w = rw e record { total = refl; written = rw append-nil w }
