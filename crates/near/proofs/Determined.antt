-- What `HasListed` says fixes what the job hands back and every byte of both lent buffers: the smallest weight is one number, the list is one
-- list, and the rule from the starting rows to the end makes one number of updates.
use mathlib.Core.Path.{◌≡◌, sym, ap, ap₂, ◌∙◌}
use mathlib.Core.List.{List}
use Prim.Native.Nat.{ℕ, ◌*◌, ◌<◌}
use native.Mathlib.Decide.{ℕ_discrete, dec_lt}
use native.Mathlib.Omega.{arith}
use lib.ListN.{length, get_or}
use lib.Seq.{get_or-take}
use Rattle.field.specs.Symbols.{symbols}
use Rattle.std.specs.Prelude.{Result, Ok, Err}
use Rattle.poly.specs.Buffers.{Places}
use Rattle.poly.specs.declared.refused.Refused.{Refused}
use Rattle.poly.proofs.RefusalLaws.{number_of-determines, number_of-positive}
use Rattle.poly.proofs.TableLaws.{first_determined}
use Rattle.poly.proofs.Interpolating.{places-only}
use Rattle.poly.proofs.BufferLaws.{untouched_unique, zeroed_unique}
use Rattle.curves.specs.Turns.{Outcome}
use Rattle.curves.proofs.Determined.{end_determined}
use Rattle.curves.proofs.Least.{weight_unique}
use Rattle.near.specs.Job.{task_of, list_table, refusal, RuleUpdates, Lists, Answers, HasListed}
use Rattle.near.specs.Job.{Near}
use Rattle.near.specs.Results.{listed}
use Rattle.near.specs.declared.Near.{Near as NearBack}
use Rattle.near.proofs.Messages.{symbols_numbered}
use Rattle.near.proofs.Lists.{list_unique}
use Rattle.near.proofs.Listing.{list-taken}

-- what is handed back is the same where its fields are
pub near-same : {a b : Near} → a.number ≡ b.number → a.count ≡ b.count → a.updates ≡ b.updates → a.weight ≡ b.weight → a ≡ b
near-same {a} {b} n c u w =
    ap₂ (λ (x y : ℕ). record { number = x; count = y; updates = a.updates; weight = a.weight }) n c
    ∙ ap₂ (λ (x y : ℕ). record { number = b.number; count = b.count; updates = x; weight = y }) u w

module _ {p : ℕ} {points word : List ℕ} {k m l : ℕ} (places : Places p points word) where
  pub updates_unique : {x y : ℕ} → RuleUpdates p points word k m l x → RuleUpdates p points word k m l y → x ≡ y
  updates_unique a b =
      let e = places-only places b.through a.through in
      a.are ∙ ap (λ (o : Outcome (symbols p)). o.updates) (end_determined a.turn a.finished (rw e at b.turn) b.finished) ∙ sym b.are

  lists_determined : {t w v : ℕ} {before after also : List ℕ} {x y : Near} → w ≡ v → Lists p points word k m l t w before after x
      → Lists p points word k m l t v before also y → (x ≡ y) × (after ≡ also)
  lists_determined {t} {before = before} {after} {also} e f g = (
    near-same (f.done ∙ sym g.done) (f.count ∙ ap length same ∙ sym g.count) (updates_unique f.updates_are g.updates_are)
        (f.weight_is ∙ e ∙ sym g.weight_is),
    untouched_unique size f.rest (rw (← same) at g.rest) low,
  )
    where
      same : f.list ≡ g.list
      same = list_unique (task_of p points word k t) (symbols_numbered places.size) f.list g.list f.exactly g.exactly

      size : ℕ
      size = length f.list * k

      low : (q : ℕ) → q < size → get_or after q 0 ≡ get_or also q 0
      low q h =
          sym (get_or-take size after q 0 h)
          ∙ ap (λ (xs : List ℕ). get_or xs q 0) (f.written ∙ sym (rw (← same) at g.written))
          ∙ get_or-take size also q 0 h

-- two outcomes of list for the same arguments are the same
module _ {p : ℕ} {points word : List ℕ} {k m l t : ℕ} {room messages : List ℕ} where
  pub list_determined : {cleared zeros after also : List ℕ} {x y : Near} → HasListed p points word k m l t room cleared messages after x
      → HasListed p points word k m l t room zeros messages also y
      → (x ≡ y) × (cleared ≡ zeros) × (after ≡ also)
  list_determined {cleared} {zeros} {after} {also} {x} {y} f g = go (ℕ_discrete f.entry 0)
    where
      same : f.entry ≡ g.entry
      same = first_determined (list_table p points word k m l t room messages) f.entry g.entry f.first g.first

      go : Dec (f.entry ≡ 0) → (x ≡ y) × (cleared ≡ zeros) × (after ≡ also)
      go (no n) =
          let a = f.refused n in
          let b = g.refused (λ e. n (same ∙ e)) in
          (a.0 ∙ ap refusal same ∙ sym b.0, a.1 ∙ sym b.1, a.2 ∙ sym b.2)
      go (yes e) =
          answered (f.answers e) (g.answers (sym same ∙ e)) (list-taken p points word k m l t room messages (rw e at f.first)).accepted.places
        where
          answered : Answers p points word k m l t room cleared messages after x → Answers p points word k m l t room zeros messages also y
              → Places p points word → (x ≡ y) × (cleared ≡ zeros) × (after ≡ also)
          answered a b places = two (dec_lt a.smallest.weight (m * t))
            where
              weight : a.smallest.weight ≡ b.smallest.weight
              weight = weight_unique a.smallest b.smallest

              room-same : cleared ≡ zeros
              room-same = zeroed_unique a.zeroed b.zeroed

              two : Dec (a.smallest.weight < m * t) → (x ≡ y) × (cleared ≡ zeros) × (after ≡ also)
              two (yes h) = let (i, j) = lists_determined places weight (a.lists h) (b.lists (rw weight at h)) in (i, room-same, j)
              two (no h) =
                  let u = a.unvouched (omega arith) in
                  let v = b.unvouched (omega (arith, weight)) in
                  (u.0 ∙ sym v.0, room-same, u.1 ∙ sym v.1)

-- the numbers of a result tell it, so two outcomes of list for the same arguments are the same result
pub listed-determines : (a b : Result NearBack Refused) → listed a ≡ listed b → a ≡ b
listed-determines (Ok x) (Ok y) e = ap (λ (n : Near). Ok (record { count = n.count; updates = n.updates; weight = n.weight })) e
listed-determines (Ok x) (Err b) e = absurd (number_of-positive b (sym (ap (λ (n : Near). n.number) e)))
listed-determines (Err a) (Ok y) e = absurd (number_of-positive a (ap (λ (n : Near). n.number) e))
listed-determines (Err a) (Err b) e = ap Err (number_of-determines a b (ap (λ (n : Near). n.number) e))

pub list_result_determined : {p : ℕ} {points word : List ℕ} {k m l t : ℕ} {room messages cleared zeros after also : List ℕ}
    (a b : Result NearBack Refused) → HasListed p points word k m l t room cleared messages after (listed a)
    → HasListed p points word k m l t room zeros messages also (listed b)
    → (a ≡ b) × (cleared ≡ zeros) × (after ≡ also)
list_result_determined a b f g = let e = list_determined f g in (listed-determines a b e.0, e.1, e.2)
