-- A choice whose test is known, and the entries of a sequence of which one was changed.
use mathlib.Core.Path.{◌≡◌, refl}
use mathlib.Core.Logic.{◌≢◌}
use Prim.Native.Nat.{ℕ}
use native.Mathlib.Decide.{ℕ_discrete}
use Rattle.field.specs.Choices.{choose, put}

pub choose_yes : {A B : Type 0} (d : Dec B) (a b : A) → B → choose d a b ≡ a
choose_yes (yes h) a b p = refl
choose_yes (no h) a b p = absurd (h p)

pub choose_no : {A B : Type 0} (d : Dec B) (a b : A) → (B → ⊥) → choose d a b ≡ b
choose_no (yes h) a b p = absurd (p h)
choose_no (no h) a b p = refl

pub put-same : {A : Type 0} (k : ℕ) (a : A) (f : ℕ → A) → put k a f k ≡ a
unfolding put
put-same k a f = choose_yes (ℕ_discrete k k) a (f k) refl

pub put-other : {A : Type 0} (k : ℕ) (a : A) (f : ℕ → A) (i : ℕ) → i ≢ k → put k a f i ≡ f i
unfolding put
put-other k a f i n = choose_no (ℕ_discrete i k) a (f i) n
