-- What is known of a request that start accepts.
use mathlib.Core.Path.{◌≡◌}
use mathlib.Core.Logic.{inl, inr}
use mathlib.Core.List.{List}
use mathlib.Core.HLevel.{dec→stable}
use Prim.Native.Nat.{ℕ, ◌≤◌, ◌<◌}
use native.Mathlib.Decide.{ℕ_discrete}
use native.Mathlib.Omega.{arith}
use lib.ListN.{length}
use borrow.Author.Rules.{rules}
use Rattle.poly.specs.Table.{First}
use Rattle.poly.specs.Buffers.{Places}
use Rattle.poly.proofs.TableLaws.{listed-passed, below-passed, Passed, first-passed}
use Rattle.rows.specs.Bytes.{shape, rows_bytes}
use Rattle.rows.specs.Jobs.{start_table, request_table}
use Rattle.rows.proofs.Notes.{GoodHeights, good-heights, GoodNote}

module _ (p : ℕ) (points word : List ℕ) (k m l : ℕ) where
  -- what the refusals 1 to 7 leave
  pub record Requested : Type 0 where
    pub places : Places p points word
    pub some : 3 ≤ length points
    pub low : 2 ≤ k
    pub degree : k < length points
    pub heights : GoodHeights m l

  pub record Accepted (rows : List ℕ) : Type 0 where
    pub places : Places p points word
    pub some : 3 ≤ length points
    pub low : 2 ≤ k
    pub degree : k < length points
    pub heights : GoodHeights m l
    pub room : rows_bytes (shape p (length points) k m l) ≤ length rows

module _ {p : ℕ} {points word : List ℕ} {k m l : ℕ} where
  requested : Passed (request_table p points word k m l) → Requested p points word k m l
  requested (size, (count, (spelt, (degree, (heights, (large, (repeated, _))))))) =
      let few : length points < 3 → ⊥ = λ h. count (inl h) in
      let many : p < length points → ⊥ = λ h. count (inr h) in
      let constant : k < 2 → ⊥ = λ h. degree (inl h) in
      let long : length points ≤ k → ⊥ = λ h. degree (inr h) in
      record {
        places =
            record {
              size = listed-passed size;
              count = omega arith;
              same = dec→stable (ℕ_discrete (length word) (length points)) spelt;
              points_below = below-passed (λ t. large (inl t));
              word_below = below-passed (λ t. large (inr t));
              different = repeated;
            };
        some = omega arith;
        low = omega arith;
        degree = omega arith;
        heights = good-heights heights;
      }

  pub request-accepted : {number : ℕ} → First (request_table p points word k m l) number → number ≡ 0 → Requested p points word k m l
  request-accepted first z = requested (first-passed (request_table p points word k m l) (search rules) first z)

module _ {p : ℕ} {points word : List ℕ} {k m l : ℕ} {rows : List ℕ} where
  pub start-accepted : {number : ℕ} → First (start_table p points word k m l rows) number → number ≡ 0 → Accepted p points word k m l rows
  start-accepted first z =
      let (size, (count, (spelt, (degree, (heights, (large, (repeated, (short, _)))))))) =
      first-passed (start_table p points word k m l rows) (search rules) first z in
      let r : Requested p points word k m l = requested (size, (count, (spelt, (degree, (heights, (large, (repeated, tt))))))) in
      record { places = r.places; some = r.some; low = r.low; degree = r.degree; heights = r.heights; room = omega arith }

  -- the note that start gives is a good one
  pub accepted-note : Accepted p points word k m l rows → GoodNote (record { p = p; n = length points; k = k; m = m; l = l; r = 1 })
  accepted-note a =
      record {
        size = a.places.size;
        some = a.some;
        most = a.places.count;
        low = a.low;
        degree = a.degree;
        heights = a.heights;
        row = omega arith;
        last = omega arith;
      }
