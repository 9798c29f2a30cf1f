-- What the parts of the reader hand back.
--   Free b text                the byte b is not in the text
--   Any                        every text
--   Meant found P              P holds of what was found; where nothing was, of nothing
--   Stands key text value rest   the text begins with the line of this key and this value, and `rest` follows
use Rattle.std.specs.Prelude.{◌≡◌, List, ◌++◌, ℕ, ◌<◌, length, get_or, Option, MatchOption}
use Rattle.text.specs.Lines.{line}

abbrev pub Free : ℕ → List ℕ → Type 0
Free b text = (i : ℕ) → i < length text → get_or text i 0 ≡ b → ⊥

abbrev pub Any : List ℕ → Type 0
Any text = Unit {0}

abbrev pub Meant : {A : Type 0} → Option A → (A → Type 0) → Type 0
Meant found P = MatchOption found ((x : _) → P x → ⊥) P

pub record Stands (key text value rest : List ℕ) : Type 0 where
  pub is : text ≡ line key value ++ rest
  pub free : Free 10 value
