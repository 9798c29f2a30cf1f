-- What the list job leaves is what the search of the rules finds. Rules: section 12.
--   HasSearched        the messages left are those that the search finds on the curve of demand 2
use Rattle.std.specs.Prelude.{◌≡◌, List, [], ℕ, suc, ◌*◌, length, take}
use Rattle.field.specs.Symbols.{symbols}
use Rattle.curves.specs.Curves.{Curve}
use Rattle.rows.specs.Jobs.{TheCurve}
use Rattle.near.specs.Search.{Searched}
use Rattle.near.specs.Job.{task_of, flat, Near}

pub record HasSearched (p : ℕ) (points word : List ℕ) (k m l t : ℕ) (after : List ℕ) (back : Near) : Type 0 where
  pub curve : Curve (symbols p).ring
  pub smallest : TheCurve p points word k m l curve
  pub list : List (List ℕ)
  pub searched : Searched (task_of p points word k t) (suc l) curve k [] list
  pub count : back.count ≡ length list
  pub written : take (length list * k) after ≡ flat list
