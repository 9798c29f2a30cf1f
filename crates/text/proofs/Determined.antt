-- What the contracts of read and write say of a reply: there is only one, and what write has written is within the buffer.
use mathlib.Core.Path.{◌≡◌, refl, ap}
use mathlib.Core.Logic.{◌⊎◌, ⊎_elim}
use mathlib.Core.List.{List}
use Prim.Native.Nat.{ℕ, ◌*◌, ◌≤◌, ◌<◌}
use native.Mathlib.Omega.{arith}
use lib.ListN.{length, drop, length-append, length-drop}
use Rattle.std.proofs.Common.{Option, Some}
use Rattle.text.specs.Requests.{Meaning, stored, HasRead}
use Rattle.text.specs.Requests.HasRead.{readable, unreadable}
use Rattle.text.specs.Answers.{Reply, answer, room_for, HasWritten}
use Rattle.text.specs.Answers.HasWritten.{written, refused}
use Rattle.text.specs.declared.Request.{Request}
use Rattle.text.proofs.Grammar.{one-meaning}

pub read_determined : {text : List ℕ} {a b : Option Request} → HasRead text a → HasRead text b → a ≡ b
read_determined (readable r p) (readable s q) = ap (λ (r : Meaning). Some (stored r)) (one-meaning p q)
read_determined (readable r p) (unreadable n) = absurd (n r p)
read_determined (unreadable n) (readable s q) = absurd (n s q)
read_determined (unreadable n) (unreadable m) = refl

enough : (o : Reply) (before : List ℕ) → room_for o ≤ length before → o.count * o.k ≤ length o.messages
    → (length before < room_for o) ⊎ (length o.messages < o.count * o.k) → ⊥
enough o before h k = ⊎_elim (λ s. omega arith) (λ s. omega arith)

pub write_determined : {o : Reply} {before x y : List ℕ} {r s : ℕ} → HasWritten o before x r → HasWritten o before y s → (x ≡ y) × (r ≡ s)
write_determined (written h k) (written h' k') = (refl, refl)
write_determined {o = o} {before = before} (written h k) (refused e) = absurd (enough o before h k e)
write_determined {o = o} {before = before} (refused e) (written h k) = absurd (enough o before h k e)
write_determined (refused e) (refused f) = (refl, refl)

pub write-within : {o : Reply} {before after : List ℕ} {r : ℕ} → HasWritten o before after r → length after ≡ length before → r ≤ length before
write-within {o = o} {before = before} (written h k) e =
    omega (arith, length-append (answer o) (drop (length (answer o)) before), length-drop (length (answer o)) before)
write-within (refused h) e = omega arith
