-- In room for 1,564 bytes the reply to a text is written whole: a list has at most 8 messages of 30 symbols, and all its messages are there.
use mathlib.Core.Path.{◌≡◌, subst}
use mathlib.Core.List.{List, ◌++◌}
use Prim.Native.Nat.{ℕ, ◌+◌, ◌*◌, ◌≤◌, ◌<◌}
use native.Mathlib.Decide.{ℕ_discrete, dec_lt}
use native.Mathlib.Nat.{mul-le-mul}
use native.Mathlib.Omega.{arith}
use lib.ListN.{length, drop}
use Rattle.poly.specs.Table.{First}
use Rattle.near.specs.Job.{list_table, Lists, Answers, HasListed}
use Rattle.near.specs.Job.{Near}
use Rattle.near.proofs.Listing.{Taken, list-taken}
use Rattle.text.specs.Answers.{Reply, answer, room_for, HasWritten}
use Rattle.text.specs.Answers.HasWritten.{written}
use Rattle.text.proofs.Determined.{write_determined}
use Rattle.program.specs.Program.{ReplyTo, Answered}
use Rattle.program.specs.Program.ReplyTo.{no_request, on_request}
use Rattle.program.proofs.Determined.{reply_determined}

-- the messages are few and short, and all there
record Printable (k : ℕ) (messages : List ℕ) (back : Near) : Type 0 where
  few : back.count * (9 + 6 * k) ≤ 1512
  there : back.count * k ≤ length messages

none_printable : {k : ℕ} {messages : List ℕ} {back : Near} → back.count ≡ 0 → Printable k messages back
none_printable e = record { few = rw e (omega arith); there = rw e (omega arith) }

module _ {p : ℕ} {points word : List ℕ} {k m l t : ℕ} {lent before messages : List ℕ} {back : Near} where
  lists_printable : {weight : ℕ} → Taken p points word k m l t lent before → Lists p points word k m l t weight before messages back
      → Printable k messages back
  lists_printable a h =
      let few : back.count ≤ l = rw h.count h.few in
      let short : k ≤ 30 = omega arith in
      record {
        few = mul-le-mul {n₁ = back.count} {m₁ = 9 + 6 * k} {n₂ = 8} {m₂ = 189} (omega arith) (omega arith);
        there = omega (arith, mul-le-mul {n₁ = back.count} {m₁ = k} {n₂ = l} {m₂ = k} (omega arith) (omega arith));
      }

  answers_printable : {left : List ℕ} → Taken p points word k m l t lent before → Answers p points word k m l t lent left before messages back
      → Printable k messages back
  answers_printable a h = go (dec_lt h.smallest.weight (m * t))
    where
      go : Dec (h.smallest.weight < m * t) → Printable k messages back
      go (yes s) = lists_printable a (h.lists s)
      go (no s) = none_printable (rw (h.unvouched (omega arith)).0)

  listed_printable : {left : List ℕ} → HasListed p points word k m l t lent left before messages back → Printable k messages back
  listed_printable h = go (ℕ_discrete h.entry 0)
    where
      go : Dec (h.entry ≡ 0) → Printable k messages back
      go (yes z) =
          answers_printable (list-taken p points word k m l t lent before
          (subst (First (list_table p points word k m l t lent before)) z h.first)) (h.answers z)
      go (no z) = none_printable (rw (h.refused z).0)

-- the reply has room, and its messages are there
reply-fits : {text : List ℕ} {o : Reply} → ReplyTo text o → (room_for o ≤ 1564) × (o.count * o.k ≤ length o.messages)
reply-fits (no_request none) = (omega arith, omega arith)
reply-fits (on_request q p left messages back h) =
    let f = listed_printable h in
    let few = f.few in
    (omega arith, f.there)

pub answer-whole : {text before after : List ℕ} {r : ℕ} {o : Reply} → Answered text before after r → ReplyTo text o → 1564 ≤ length before
    → (after ≡ answer o ++ drop (length (answer o)) before) × (r ≡ length (answer o))
answer-whole {before = before} {after} {r} {o} a replies h =
    let fits = reply-fits replies in
    let enough = fits.0 in
    write_determined (subst (λ (x : Reply). HasWritten x before after r) (reply_determined a.replies replies) a.prints)
    (written (omega arith) fits.1)
