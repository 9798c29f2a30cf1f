-- The numbers that start and list give: the first line of their tables that applies, and that none does where a request is in order.
use mathlib.Core.Path.{◌≡◌, refl, ap, ◌∙◌}
use mathlib.Core.Bool.{false}
use mathlib.Core.Logic.{◌⊎◌, inl, inr, ⊎_elim}
use mathlib.Core.List.{List}
use Prim.Native.Nat.{ℕ, suc, ◌*◌, ◌≤◌, ◌<◌}
use native.Mathlib.Omega.{arith}
use lib.ListN.{length}
use borrow.Author.Rules.{rules}
use Rattle.field.specs.Symbols.{listed}
use Rattle.field.specs.Operations.{Listed}
use Rattle.field.proofs.SixteenLaws.{sixteen}
use Rattle.poly.specs.Table.{First, BadCount, BadHeights, TooLarge}
use Rattle.poly.specs.Encode.{encode_table}
use Rattle.poly.specs.Limits.{working_room}
use Rattle.poly.proofs.TableLaws.{◌⊳◌, first_determined, first-goes, not_unlisted, none-large, good-count, good-degree}
use Rattle.rows.specs.Jobs.{start_table, request_table}
use Rattle.rows.proofs.Accepted.{Accepted}
use Rattle.near.specs.Job.{list_table}
use Rattle.near.specs.Job.{Near}
use Rattle.figures.specs.Figures.{zero_to_15, EncodeGives, Refused}
use Rattle.figures.proofs.Computed.{seven}

module _ {p : ℕ} {points word : List ℕ} {k m l : ℕ} {lent : List ℕ} (a : Accepted p points word k m l lent) where
  good-heights : BadHeights m l → ⊥
  good-heights (inl h) = omega (arith, a.heights)
  good-heights (inr (inl h)) = omega (arith, a.heights)
  good-heights (inr (inr (inl h))) = omega (arith, a.heights)
  good-heights (inr (inr (inr h))) = omega (arith, a.heights)

  -- the seven lines that both tables begin with
  request-goes : First (request_table p points word k m l) 0
  request-goes =
      not_unlisted a.places.size
      ⊳ good-count a.some a.places.count
      ⊳ (λ n. n a.places.same)
      ⊳ good-degree a.low a.degree
      ⊳ good-heights
      ⊳ ⊎_elim (none-large a.places.points_below) (none-large a.places.word_below)
      ⊳ a.places.different
      ⊳ refl

  pub start-goes : First (start_table p points word k m l lent) 0
  start-goes = first-goes 7 (start_table p points word k m l lent) 0 (search rules) request-goes ((λ h. let r = a.room in omega arith) ⊳ refl)

  pub list-goes : (t : ℕ) (room messages : List ℕ) → 1 ≤ t → t ≤ length points → working_room ≤ length room → l * k ≤ length messages
      → First (list_table p points word k m l t room messages) 0
  list-goes t room messages low high large long =
      first-goes 7 (list_table p points word k m l t room messages) 0 (search rules) request-goes
      (⊎_elim (λ h. omega arith) (λ h. omega arith) ⊳ ⊎_elim (λ h. omega arith) (λ h. omega arith) ⊳ refl)

encode_gives : {p : ℕ} {points : List ℕ} {k : ℕ} (n : ℕ)
    → ((message lent : List ℕ) → length message ≡ k → First (encode_table p points message lent) (suc n)) → EncodeGives (suc n) p points k
encode_gives {p} {points} n table message before after given long e =
    first_determined (encode_table p points message before) given (suc n) e.first (table message before long)

-- where line n + 1 is the first that applies in both tables
module _ {p : ℕ} {points word : List ℕ} {k m l t : ℕ} where
  refused : (n : ℕ) → ((lent : List ℕ) → First (start_table p points word k m l lent) (suc n))
      → ((room messages : List ℕ) → First (list_table p points word k m l t room messages) (suc n))
      → Refused (suc n) p points word k m l t
  refused n start list =
      record {
        start = λ before after back h. first_determined (start_table p points word k m l before) back.number (suc n) h.first (start before);
        list = λ room zeroed before after back h.
            let e = first_determined (list_table p points word k m l t room before) h.entry (suc n) h.first (list room before) in
            ap (λ (x : Near). x.number) (h.refused (λ z. omega arith)).0 ∙ e;
      }

nine : listed 9 ≡ false
unfolding listed
nine = refl

module _ (points word : List ℕ) where
  pub p_9 : (k m l t : ℕ) → EncodeGives 1 9 points k × Refused 1 9 points word k m l t
  p_9 k m l t = (encode_gives 0 (λ message lent e. inl (nine, refl)), refused 0 (λ lent. inl (nine, refl)) (λ room messages. inl (nine, refl)))

  bad-count : {p : ℕ} → Listed p → (k m l t : ℕ) → BadCount p (length points) → EncodeGives 2 p points k × Refused 2 p points word k m l t
  bad-count size k m l t bad = (
    encode_gives 1 (λ message lent e. not_unlisted size ⊳ inl (bad, refl)),
    refused 1 (λ lent. not_unlisted size ⊳ inl (bad, refl)) (λ room messages. not_unlisted size ⊳ inl (bad, refl)),
  )

  pub n_2 : (k m l t : ℕ) → length points ≡ 2 → EncodeGives 2 7 points k × Refused 2 7 points word k m l t
  n_2 k m l t two = bad-count seven k m l t (inl (omega arith))

  pub n_17 : (k m l t : ℕ) → length points ≡ 17 → EncodeGives 2 16 points k × Refused 2 16 points word k m l t
  n_17 k m l t many = bad-count sixteen k m l t (inr (omega arith))

  module _ (some : 3 ≤ length points) (most : length points ≤ 7) (same : length word ≡ length points) where
    pub k-n : (m l t : ℕ) → EncodeGives 4 7 points (length points) × Refused 4 7 points word (length points) m l t
    k-n m l t = (
      encode_gives 3 (λ message lent e. not_unlisted seven ⊳ good-count some most ⊳ inl (inr (omega arith), refl)),
      refused 3 (λ lent. not_unlisted seven ⊳ good-count some most ⊳ (λ n. n same) ⊳ inl (inr (omega arith), refl))
          (λ room messages. not_unlisted seven ⊳ good-count some most ⊳ (λ n. n same) ⊳ inl (inr (omega arith), refl)),
    )

    pub l_9 : (k m t : ℕ) → 2 ≤ k → k < length points → Refused 5 7 points word k m 9 t
    l_9 k m t low degree =
        refused 4 (λ lent. not_unlisted seven ⊳ good-count some most ⊳ (λ n. n same) ⊳ good-degree low degree ⊳ inl
        (inr (inr (inr (omega arith))), refl))
        (λ room messages. not_unlisted seven ⊳ good-count some most ⊳ (λ n. n same) ⊳ good-degree low degree ⊳ inl
        (inr (inr (inr (omega arith))), refl))

pub symbol_16 : (word : List ℕ) (k m l t : ℕ) → length word ≡ 16 → 2 ≤ k → k < 16 → (BadHeights m l → ⊥) → TooLarge 16 word
    → Refused 6 16 zero_to_15 word k m l t
symbol_16 word k m l t same low degree heights large =
    refused 5 (λ lent. not_unlisted sixteen ⊳ count ⊳ (λ n. n same) ⊳ good-degree low degree ⊳ heights ⊳ inl (inr large, refl))
    (λ room messages. not_unlisted sixteen ⊳ count ⊳ (λ n. n same) ⊳ good-degree low degree ⊳ heights ⊳ inl (inr large, refl))
  where
    count : BadCount 16 16 → ⊥
    count = good-count (omega arith) (omega arith)
