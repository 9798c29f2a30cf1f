-- What a board hears of the departure that was sent. Where it agrees at t places or more, that is, where at most n - t symbols were disturbed,
-- it is on the list: so the one that is shown is the one that was sent.
use mathlib.Core.Path.{◌≡◌, refl, sym, ap, subst, ◌∙◌}
use mathlib.Core.Logic.{inl, inr}
use mathlib.Core.List.Memᴰ
use mathlib.Core.List.{List, [], ◌∷◌}
use Prim.Native.Nat.{ℕ, zero, suc, ◌+◌, ◌*◌, ◌≤◌, ◌<◌}
use native.Mathlib.Decide.{ℕ_discrete, dec_lt}
use native.Mathlib.Omega.{arith}
use lib.ListN.{length, get_or, take}
use borrow.Author.Rules.{rules}
use Rattle.field.specs.Choices.{choose}
use Rattle.field.specs.Symbols.{listed, symbol, symbols}
use Rattle.field.specs.Operations.{Listed}
use Rattle.field.proofs.Choices.{choose_yes, choose_no}
use Rattle.field.proofs.SymbolLaws.{is-listed, symbol-byte}
use Rattle.poly.specs.Polynomials.{value}
use Rattle.poly.specs.Table.{Refusal, First}
use Rattle.poly.specs.Encode.{Encoded, value_at}
use Rattle.near.specs.Lists.{Task, In, polynomial, agreements, Wanted, IsList}
use Rattle.near.specs.Job.{task_of}
use Rattle.near.proofs.Messages.{symbols_numbered, polynomial-same, polynomial_beyond}
use Rattle.near.proofs.Agreements.{agreements-suc, agrees?}
use Rattle.departures.specs.Departures.{InRange, six_symbols, departure_of, departure_field, departure_symbols}
use Rattle.departures.specs.Jobs.{WritesDeparture}
use Rattle.departures.specs.Hearing.{hear_table, departure_task, Says, AnswersBoard, HasHeard, Agrees, disturbed, Hears}
use Rattle.departures.specs.Hearing.Says.{nothing, shows, strange, waits}
use Rattle.departures.specs.Hearing.Hears.{itself, among, unheard}
use Rattle.departures.specs.declared.Departure.{Departure}
use Rattle.departures.specs.Hearing.{Heard}
use Rattle.departures.specs.Hearing.Heard.{One, Refused}
use Rattle.departures.proofs.DepartureLaws.{six-spell, six_departure}
use Rattle.departures.proofs.Outcomes.{put-passed}

-- so 1 never applies
pub departures-listed : Listed departure_field
unfolding listed
departures-listed = is-listed refl

-- refusals by numbers of at most 9: none of them is 15
abbrev pub UpToNine : List Refusal → Type 0
UpToNine [] = Unit
UpToNine (x ∷ rest) = (x.number ≤ 9) × UpToNine rest

pub first-most : (table : List Refusal) {number : ℕ} → UpToNine table → First table number → number ≤ 9
first-most [] k e = omega arith
first-most (x ∷ rest) k (inl (here, e)) = let h = k.0 in omega arith
first-most (x ∷ rest) k (inr (not, f)) = first-most rest k.1 f

module _ {d : Departure} {points word : List ℕ} {t : ℕ} (sent : Agrees d points word t) where
  -- it is on the list
  on-list : (list : List (List ℕ)) → IsList (departure_task points word t) list → In (six_symbols d) list
  on-list list exactly =
      let task = departure_task points word t in
      let numbered = symbols_numbered departures-listed in
      let wanted : Wanted task (polynomial task (six_symbols d)) =
      record { degree = λ i k. polynomial_beyond task numbered (six_symbols d) i k; agrees = sent.enough } in
      let (x, on, same) = exactly.all (polynomial task (six_symbols d)) wanted in
      let is = polynomial-same task numbered x (six_symbols d) (exactly.spelt x on) (six_departure d sent.range).spelt same in
      subst (λ (y : List ℕ). In y list) is on

  heard_on : {list : List (List ℕ)} {back : Heard} → In (six_symbols d) list → Says list back → Hears d back
  heard_on on nothing = absurd (Memᴰ.not-nil on)
  heard_on on (shows x is) = subst (λ (e : Departure). Hears d (One e)) (sym (six-spell d) ∙ ap departure_of (Memᴰ.eq_of_singleton on)) itself
  heard_on on (strange x not) = absurd (not (rw (Memᴰ.eq_of_singleton on) at (six_departure d sent.range)))
  heard_on on (waits x y list) = among

  pub heard-sent : {m l : ℕ} {room room' : List ℕ} {back : Heard} → HasHeard points word m l t room room' back → Hears d back
  heard-sent {m} {l} {room} {room'} {back} h = go (ℕ_discrete h.entry 0)
    where
      refused-with : (number : ℕ) → (number ≡ 0 → ⊥) → (number ≡ 15 → ⊥) → back ≡ Refused number → Hears d back
      refused-with number some other e = subst (Hears d) (sym e) (unheard number some other)

      go : Dec (h.entry ≡ 0) → Hears d back
      go (no n) =
          let most = first-most (hear_table points word m l t room) (search rules) h.first in
          refused-with h.entry n (λ e. omega arith) (h.refused n).0
      go (yes z) = answered (h.answers z)
        where
          answered : AnswersBoard points word m l t room room' back → Hears d back
          answered a = two (dec_lt a.smallest.weight (m * t))
            where
              two : Dec (a.smallest.weight < m * t) → Hears d back
              two (yes k) = let (list, exactly, said) = a.says k in heard_on (on-list list exactly) said
              two (no k) = refused-with 13 (λ e. omega arith) (λ e. omega arith) (a.unvouched (omega arith))

-- where a word was encoded and then disturbed, each place that was not disturbed agrees
module _ {p : ℕ} {points message before sent : List ℕ} (encoded : Encoded p points message before sent 0) (word : List ℕ) (t : ℕ) where
  abbrev asked : Task (symbols p)
  asked = task_of p points word (length message) t

  place-agrees : (s : ℕ) → s < length points → get_or sent s 0 ≡ get_or word s 0
      → value (symbols p).ring (asked.point s) (length message) (polynomial asked message) ≡ asked.received s
  place-agrees s h e = sym (symbol-byte p (value_at p message (get_or points s 0))) ∙ ap (symbol p) (sym (encoded.word refl s h) ∙ e)

  agrees-or-disturbed : (n : ℕ) → n ≤ length points → n ≤ agreements asked n (polynomial asked message) + disturbed n sent word
  agrees-or-disturbed zero h = omega arith
  agrees-or-disturbed (suc n) h =
      let before = agrees-or-disturbed n (omega arith) in
      let grown = agreements-suc asked (polynomial asked message) n in
      go before grown (ℕ_discrete (get_or sent n 0) (get_or word n 0))
    where
      go : n ≤ agreements asked n (polynomial asked message) + disturbed n sent word
          → agreements asked (suc n) (polynomial asked message)
          ≡ agreements asked n (polynomial asked message) + choose (agrees? asked (polynomial asked message) n) 1 0
          → Dec (get_or sent n 0 ≡ get_or word n 0)
          → suc n ≤ agreements asked (suc n) (polynomial asked message) + disturbed (suc n) sent word
      go before grown (yes e) =
          let one = choose_yes {A = ℕ} (agrees? asked (polynomial asked message) n) 1 0 (place-agrees n (omega arith) e) in
          omega (arith, before, grown, one)
      go before grown (no k) =
          let one = choose_no {A = ℕ} (ℕ_discrete (get_or sent n 0) (get_or word n 0)) 0 1 k in omega (arith, before, grown, one)

  undisturbed : disturbed (length points) sent word + t ≤ length points → t ≤ agreements asked (length points) (polynomial asked message)
  undisturbed few = let h = agrees-or-disturbed (length points) (omega arith) in omega arith

pub undisturbed-agrees : {d : Departure} {points before sent word : List ℕ} {t : ℕ} → InRange d
    → Encoded departure_field points (six_symbols d) before sent 0 → disturbed (length points) sent word + t ≤ length points
    → Agrees d points word t
undisturbed-agrees {word = word} {t} range encoded few = record { range = range; enough = undisturbed encoded word t few }

-- a departure that was written, encoded and then disturbed in at most n - t places
pub sent_heard : {d : Departure} {points blank message before sent word room room' : List ℕ} {m l t : ℕ} {back : Heard}
    → WritesDeparture d blank message 0 → Encoded departure_field points (take departure_symbols message) before sent 0
    → disturbed (length points) sent word + t ≤ length points
    → HasHeard points word m l t room room' back
    → Hears d back
sent_heard {blank = blank} wrote encoded few h =
    heard-sent (undisturbed-agrees (put-passed blank wrote.first refl).0 (rw (wrote.front refl) at encoded) few) h

-- in particular, the one that is shown is the one that was sent
pub shown-sent : {d e : Departure} → Hears d (One e) → e ≡ d
shown-sent itself = refl
