-- The departure that was sent, on the bytes that C sees: where it agrees at t places or more, the one that is shown is that one.
use mathlib.Core.Path.{◌≡◌, sym, subst, ◌∙◌}
use mathlib.Core.List.{List}
use Prim.Native.Nat.{ℕ, ◌<◌, ◌≤◌}
use native.Mathlib.Decide.{dec_lt}
use native.Mathlib.Omega.{arith}
use lib.ListN.{length}
use borrow.Author.Rules.{rules}
use Rattle.departures.specs.Hearing.{Agrees, Hears}
use Rattle.departures.specs.Hearing.Hears.{itself, among, unheard}
use Rattle.departures.specs.declared.Departure.{Departure}
use Rattle.departures.specs.Hearing.{Heard}
use Rattle.departures.specs.Hearing.Heard.{One, Several}
use Rattle.departures.proofs.Hearing.{first-most, heard-sent}
use Rattle.boards.specs.Lent.{heard_bytes, back_of_hear, heard_into}
use Rattle.boards.specs.DepartureCalls.{hear_call_table, HearCall, SentHeard}
use Rattle.boards.proofs.LentLaws.{bytes-kept, departure-kept, count-kept}
use Rattle.boards.proofs.Calling.{hear-room, hear_job}

refused-sent : {d : Departure} {number : ℕ} {heard : List ℕ} → (number ≡ 0 → ⊥) → (number ≡ 15 → ⊥) → SentHeard d number heard
refused-sent some other = record { shown = λ z e. absurd (some z); some = λ z. absurd (some z); spelt = other }

module _ (heard : List ℕ) (long : heard_bytes ≤ length heard) where
  hears-sent : {d : Departure} {job : Heard} → Hears d job → SentHeard d (back_of_hear job).number (heard_into (back_of_hear job) heard)
  hears-sent {d} itself =
      let one = count-kept (back_of_hear (One d)) heard long in
      record {
        shown = λ z e. (bytes-kept (back_of_hear (One d)) heard long, departure-kept (back_of_hear (One d)) heard long);
        some = λ z. omega (arith, one);
        spelt = λ e. omega arith;
      }
  hears-sent among =
      let two = count-kept (back_of_hear Several) heard long in
      record { shown = λ z e. absurd (omega (arith, two, e)); some = λ z. omega (arith, two); spelt = λ e. omega arith }
  hears-sent (unheard number some other) = refused-sent some other

pub hear_call-sent : {d : Departure} {points word : List ℕ} {m l t : ℕ} {room room' heard heard' : List ℕ} {number : ℕ} → Agrees d points word t
    → HearCall points word m l t room room' heard heard' number
    → SentHeard d number heard'
hear_call-sent {d} {points} {word} {m} {l} {t} {room} {heard = heard} {heard'} {number} sent call = go (dec_lt (length heard) heard_bytes)
  where
    go : Dec (length heard < heard_bytes) → SentHeard d number heard'
    -- with fewer bytes the number is one of 1 to 9
    go (yes short) =
        let some : call.entry ≡ 0 → ⊥ = λ z. hear-room room heard call.first z short in
        let most = first-most (hear_call_table points word m l t room heard) (search rules) call.first in
        let number_is = (call.refused some).0 in
        refused-sent (λ z. some (sym number_is ∙ z)) (λ e. omega arith)
    go (no n) =
        let long : heard_bytes ≤ length heard = omega arith in
        let (job, has, number_is, heard-is) = hear_job long call in
        let told = hears-sent heard long (heard-sent sent has) in
        subst (λ n. SentHeard d n heard') (sym number_is) (subst (SentHeard d (back_of_hear job).number) (sym heard-is) told)
