-- Texts and their lines, as lists of bytes.
--   bytes s          the bytes of the ASCII text s
--   line key value   a line: its key, its value and a line feed
use Rattle.std.specs.Prelude.{List, [], ◌∷◌, ◌++◌, ℕ}
use Prim.Native.Char.{code}
use Prim.Native.String.{String}

abbrev pub bytes : String → List ℕ
bytes String.[] = []
bytes (String.◌∷◌ c s) = code c ∷ bytes s

abbrev pub line : List ℕ → List ℕ → List ℕ
line key value = key ++ (value ++ bytes "\n")
