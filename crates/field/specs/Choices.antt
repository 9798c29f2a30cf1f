-- One of two values, and one entry of a sequence changed.
--   choose test a b     a where the test holds, else b
--   put k v f           f with v at k
use Rattle.std.specs.Prelude.{ℕ}
use Rattle.std.proofs.Math.Decide.{ℕ_discrete}

abbrev pub choose : {A B : Type 0} → Dec B → A → A → A
choose (yes h) a b = a
choose (no h) a b = b

unfoldable pub put : {A : Type 0} → ℕ → A → (ℕ → A) → ℕ → A
put k v f i = choose (ℕ_discrete i k) v (f i)
