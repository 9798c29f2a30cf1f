-- What becomes of lent bytes beside what a job hands over in them. Rules: sections 1 and 16.
--   Untouched size xs ys    from the byte `size` on ys is as xs, and as long
--   Zeroed size xs ys       ys is xs with its first `size` bytes zero
use Rattle.std.specs.Prelude.{◌≡◌, List, ℕ, ◌≤◌, ◌<◌, length, get_or}

pub record Untouched (size : ℕ) (before after : List ℕ) : Type 0 where
  pub long : length after ≡ length before
  pub same : (q : ℕ) → size ≤ q → get_or after q 0 ≡ get_or before q 0

pub record Zeroed (size : ℕ) (before after : List ℕ) : Type 0 where
  pub zeros : (q : ℕ) → q < size → get_or after q 0 ≡ 0
  pub rest : Untouched size before after
