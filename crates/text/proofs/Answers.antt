-- The whole answer, from the lines that were put.
use mathlib.Core.Path.{◌≡◌, refl, sym, ap, ◌∙◌, subst, subst₂}
use mathlib.Core.List.{List, [], ◌++◌, append-nil}
use Prim.Native.Nat.{ℕ, zero, suc, ◌*◌, ◌≤◌}
use native.Mathlib.Nat.{zero-add}
use lib.ListN.{length, drop}
use Rattle.text.specs.Lines.{bytes, line}
use Rattle.text.specs.Answers.{decimal, Reply, details, answer, room_for, HasWritten}
use Rattle.text.specs.Answers.HasWritten.{written}
use Rattle.text.specs.Writing.{Put}
use Rattle.text.specs.declared.writing.Page.{Page}

abbrev first : Reply → List ℕ
first o = line (bytes "answer=") (decimal o.number)

-- with another number than 0 the first line is all
pub first_alone : (o : Reply) {before after : Page} {bound : ℕ} → (o.number ≡ 0 → ⊥) → Put before (first o) bound after
    → Put before (answer o) bound after
unfolding details
first_alone o {before} {after} {bound} h p =
    subst (λ (l : List ℕ). Put before l bound after) (sym (ap (λ (l : List ℕ). first o ++ l) (none o.number h) ∙ append-nil (first o))) p
  where
    none : (n : ℕ) → (n ≡ 0 → ⊥) → details n o ≡ []
    none zero h = absurd (h refl)
    none (suc n) h = refl

pub all_lines : (o : Reply) {before after : Page} {bound : ℕ} → o.number ≡ 0 → Put before (first o ++ details 0 o) bound after
    → Put before (answer o) bound after
all_lines o {before} {after} {bound} e p = subst (λ (n : ℕ). Put before (first o ++ details n o) bound after) (sym e) p

-- the page began empty, and what is left is the page's
pub has_written : (o : Reply) {before after : Page} {bound : ℕ} {new : List ℕ} → before.len ≡ 0 → new ≡ after.out.now
    → room_for o ≤ length before.out.now → o.count * o.k ≤ length o.messages → Put before (answer o) bound after
    → HasWritten o before.out.now new after.len
has_written o {before} {after} zero_len left h k p =
    let long : length (answer o) ≡ after.len = sym (p.ends ∙ rw (zero_len, zero-add)) in
    let is : after.out.now ≡ answer o ++ drop after.len before.out.now = p.is ∙ rw zero_len in
    subst₂ (HasWritten o before.out.now) (ap (λ (n : ℕ). answer o ++ drop n before.out.now) long ∙ sym (left ∙ is)) long (written h k)
