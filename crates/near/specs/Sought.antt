-- What a search asks and finds, of a search as the code holds it: its plan beside its points and its word.
--   task search             the task that it sets
--   after, with, kept       the messages found, as in Work
--   Searches                what a level asks, as in Work
use Rattle.std.specs.Prelude.{List, ℕ}
use Rattle.field.specs.Symbols.{symbols}
use Rattle.near.specs.Lists.{Task}
use Rattle.near.specs.Work as work
use Rattle.near.specs.declared.search.Search.{Search}

module _ (search : Search) where
  abbrev pub task : Task (symbols search.plan.shape.p)
  task = work.task_for search.plan search.points.now search.word.now

  abbrev pub after : (curve chosen : List ℕ) → ℕ → List (List ℕ)
  after = work.after search.plan search.points.now search.word.now

  abbrev pub with : (curve chosen : List ℕ) → ℕ → ℕ → List (List ℕ)
  with = work.with search.plan search.points.now search.word.now

  abbrev pub kept : List ℕ → List (List ℕ)
  kept = work.kept search.plan search.points.now search.word.now

  abbrev pub Searches : (curve chosen : List ℕ) → ℕ → Type 0
  Searches = work.Searches search.plan search.points.now search.word.now
