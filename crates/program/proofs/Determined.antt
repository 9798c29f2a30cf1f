-- A text has one answer: two outcomes of `answer` on the same text and lent bytes leave the same bytes and the same length. The text has one
-- meaning, the list job hands back one thing for it, and so there is one reply, which is printed in one way.
use mathlib.Core.Path.{◌≡◌, refl, ap, ap₂, ◌∙◌, subst}
use mathlib.Core.List.{List}
use Prim.Native.Nat.{ℕ}
use lib.ListN.{replicate}
use Rattle.poly.specs.Limits.{messages_most, working_room}
use Rattle.near.specs.Job.{HasListed}
use Rattle.near.specs.Job.{Near}
use Rattle.near.proofs.Determined.{list_determined}
use Rattle.text.specs.Requests.{Meaning}
use Rattle.text.specs.Answers.{Reply, reply, HasWritten}
use Rattle.text.proofs.Grammar.{one-meaning}
use Rattle.text.proofs.Determined.{write_determined}
use Rattle.program.specs.Program.{ReplyTo, Answered}
use Rattle.program.specs.Program.ReplyTo.{no_request, on_request}

pub reply_determined : {text : List ℕ} {a b : Reply} → ReplyTo text a → ReplyTo text b → a ≡ b
reply_determined (no_request none) (no_request none') = refl
reply_determined (no_request none) (on_request q p left messages back h) = absurd (none q p)
reply_determined (on_request q p left messages back h) (no_request none) = absurd (none q p)
reply_determined (on_request q p left messages back h) (on_request q' p' left' messages' back' h') =
    let h'' =
    subst (λ (x : Meaning). HasListed x.field x.points x.word x.k x.m x.l x.t
    (replicate working_room 0) left' (replicate messages_most 0) messages' back') (one-meaning p' p) h' in
    let same = list_determined h h'' in
    ap₂ (λ (x : Near) (xs : List ℕ). reply x.number x.updates x.weight x.count q.k xs) same.0 same.2
    ∙ ap (λ (x : Meaning). reply back'.number back'.updates back'.weight back'.count x.k messages') (one-meaning p p')

pub answer_determined : {text before x y : List ℕ} {r s : ℕ} → Answered text before x r → Answered text before y s → (x ≡ y) × (r ≡ s)
answer_determined {before = before} {y = y} {s = s} a b =
    write_determined a.prints (subst (λ (o : Reply). HasWritten o before y s) (reply_determined b.replies a.replies) b.prints)
