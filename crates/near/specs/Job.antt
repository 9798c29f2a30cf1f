-- The job list: when it refuses, and what it leaves. Rules: sections 12 to 16.
--   task_of p points word k t  what is asked of the list, over the symbols of p
--   list_table         refusals 1 to 9
--   flat list          the messages one after the other
--   Near               what list hands back: its number and the values beside it; Results says which stand for each case
--   refusal number     what a refusal hands back: its number and zeros
--   RuleUpdates        how many updates the rule makes from the starting rows to the end
--   Lists              what an answered list hands back and leaves in the message room: exactly the messages wanted
--   Answers            what an accepted list leaves: with w the curve's weight, 13 where m t is not above w, and else the list
--   HasListed          what the job hands back and leaves in the lent bytes
use Rattle.std.specs.Prelude.{◌≡◌, ◌⊎◌, List, [], ◌∷◌, ◌++◌, ℕ, suc, ◌-◌, ◌*◌, ◌≤◌, ◌<◌, length, take}
use Rattle.field.specs.Symbols.{symbol, symbols, symbols_of}
use Rattle.poly.specs.Polynomials.{Seq, locator, Through}
use Rattle.poly.specs.Limits.{working_room}
use Rattle.poly.specs.Table.{Refusal, First, TooShort}
use Rattle.poly.specs.Lent.{Untouched, Zeroed}
use Rattle.curves.specs.Curves.{Curve}
use Rattle.curves.specs.Start.{start_row}
use Rattle.curves.specs.Turns.{Outcome, Turn}
use Rattle.rows.specs.Jobs.{TheCurve, request_table}
use Rattle.near.specs.Lists.{Task, IsList}

abbrev pub task_of : (p : ℕ) → List ℕ → List ℕ → ℕ → ℕ → Task (symbols p)
task_of p points word k t =
    record { p = p; element = symbol p; n = length points; point = symbols_of p points; received = symbols_of p word; k = k; t = t }

abbrev pub list_table : ℕ → List ℕ → List ℕ → ℕ → ℕ → ℕ → ℕ → List ℕ → List ℕ → List Refusal
list_table p points word k m l t room messages =
    request_table p points word k m l ++
    record { number = 8; applies = (t < 1) ⊎ (length points < t) } ∷
    record { number = 9; applies = TooShort working_room room ⊎ TooShort (l * k) messages } ∷
    []

abbrev pub flat : List (List ℕ) → List ℕ
flat [] = []
flat (x ∷ list) = x ++ flat list

pub record Near : Type 0 where
  pub number : ℕ
  pub count : ℕ
  pub updates : ℕ
  pub weight : ℕ

abbrev pub refusal : ℕ → Near
refusal number = record { number = number; count = 0; updates = 0; weight = 0 }

module _ (p : ℕ) (points word : List ℕ) (k m l : ℕ) where
  pub record RuleUpdates (updates : ℕ) : Type 0 where
    pub h : Seq (symbols p).ring
    pub through : Through (symbols p).ring (length points) (symbols_of p points) (symbols_of p word) h
    pub allowance : ℕ
    pub outcome : Outcome (symbols p)
    pub turn : Turn (symbols p) (k - 1) l allowance
        (start_row (symbols p).ring m (locator (symbols p).ring (length points) (symbols_of p points)) h) 1 outcome
    pub finished : outcome.row ≡ suc l
    pub are : updates ≡ outcome.updates

  module _ (t : ℕ) where
    pub record Lists (weight : ℕ) (before after : List ℕ) (back : Near) : Type 0 where
      pub list : List (List ℕ)
      pub exactly : IsList (task_of p points word k t) list
      pub few : length list ≤ l
      pub done : back.number ≡ 0
      pub count : back.count ≡ length list
      pub updates_are : RuleUpdates back.updates
      pub weight_is : back.weight ≡ weight
      pub written : take (length list * k) after ≡ flat list
      pub rest : Untouched (length list * k) before after

    pub record Answers (room_before room_after before after : List ℕ) (back : Near) : Type 0 where
      pub curve : Curve (symbols p).ring
      pub smallest : TheCurve p points word k m l curve
      pub zeroed : Zeroed working_room room_before room_after
      pub unvouched : m * t ≤ smallest.weight → (back ≡ refusal 13) × (after ≡ before)
      pub lists : smallest.weight < m * t → Lists smallest.weight before after back

    pub record HasListed (room_before room_after before after : List ℕ) (back : Near) : Type 0 where
      pub entry : ℕ
      pub first : First (list_table p points word k m l t room_before before) entry
      pub answers : entry ≡ 0 → Answers room_before room_after before after back
      pub refused : (entry ≡ 0 → ⊥) → (back ≡ refusal entry) × (room_after ≡ room_before) × (after ≡ before)
