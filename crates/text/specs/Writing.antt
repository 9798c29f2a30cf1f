-- What the parts of the writer leave.
--   Put before text bound after   the text, at most `bound` bytes long, was put after what was written, and nothing else changed
use Rattle.std.specs.Prelude.{◌≡◌, List, ◌++◌, ℕ, ◌+◌, ◌≤◌, length, take, drop}
use Rattle.text.specs.declared.writing.Page.{Page}

pub record Put (before : Page) (text : List ℕ) (bound : ℕ) (after : Page) : Type 0 where
  pub short : length text ≤ bound
  pub inside : before.len + length text ≤ length before.out.now
  pub ends : after.len ≡ before.len + length text
  pub is : after.out.now ≡ take before.len before.out.now ++ text ++ drop after.len before.out.now
  pub same : after.out.ghost_name ≡ before.out.ghost_name
