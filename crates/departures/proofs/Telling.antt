-- Hear is the list job, read by a board: from what the list job left to what hear promises.
use mathlib.Core.Path.{◌≡◌, refl, sym, ap, subst, ◌∙◌}
use mathlib.Core.Logic.{inl, inr, ⊎_elim}
use mathlib.Core.List.{List, [], ◌∷◌, ◌++◌, append-nil}
use Prim.Native.Nat.{ℕ, ◌*◌}
use native.Mathlib.Omega.{arith}
use lib.ListN.{length, take, drop, replicate}
use Rattle.poly.specs.Limits.{height_most}
use Rattle.poly.specs.Table.{Refusal, First}
use Rattle.poly.proofs.TableLaws.{Passed, narrower}
use Rattle.near.specs.Job.{list_table, flat, Answers, HasListed}
use Rattle.near.specs.Job.{Near}
use Rattle.departures.specs.Departures.{IsDeparture, departure_of, departure_field, departure_symbols}
use Rattle.departures.specs.Jobs.{ReadsDeparture}
use Rattle.departures.specs.Hearing.{hear_table, Says, AnswersBoard, HasHeard}
use Rattle.departures.specs.Hearing.Says.{nothing, shows, strange, waits}
use Rattle.departures.specs.declared.Departure.{Departure}
use Rattle.departures.specs.Jobs.{Reading}
use Rattle.departures.specs.Hearing.{Heard}
use Rattle.departures.specs.Hearing.Heard.{None, One, Several, Refused}
use Rattle.departures.proofs.Outcomes.{read-passed}

-- what is said where so many messages stand in these bytes
pub data Counted (count : ℕ) (messages : List ℕ) : Heard → Type 0 where
  none : count ≡ 0 → Counted count messages None
  many : (count ≡ 0 → ⊥) → (count ≡ 1 → ⊥) → Counted count messages Several
  one : count ≡ 1 → (r : Reading) → ReadsDeparture (take departure_symbols messages) r → r.number ≡ 0 → Counted count messages (One r.departure)
  other : count ≡ 1 → (r : Reading) → ReadsDeparture (take departure_symbols messages) r → (r.number ≡ 0 → ⊥)
      → Counted count messages (Refused r.number)

says-none : (list : List (List ℕ)) → length list ≡ 0 → Says list None
says-none [] e = nothing
says-none (x ∷ list) e = absurd (omega arith)

says-many : (list : List (List ℕ)) → (length list ≡ 0 → ⊥) → (length list ≡ 1 → ⊥) → Says list Several
says-many [] some few = absurd (some refl)
says-many (x ∷ []) some few = absurd (few refl)
says-many (x ∷ y ∷ list) some few = waits x y list

module _ (x : List ℕ) {xs : List ℕ} {r : Reading} (is : xs ≡ x) (h : ReadsDeparture xs r) where
  says-one : r.number ≡ 0 → Says (x ∷ []) (One r.departure)
  says-one z =
      subst (λ (d : Departure). Says (x ∷ []) (One d)) (sym (h.read z ∙ ap departure_of is)) (shows x (rw is at (read-passed h.first z)))

  says-other : (r.number ≡ 0 → ⊥) → Says (x ∷ []) (Refused r.number)
  says-other n = ⊎_elim refused (λ none. absurd (n none.1)) h.first
    where
      refused : (IsDeparture xs → ⊥) × (r.number ≡ 15) → Says (x ∷ []) (Refused r.number)
      refused (not, e) = subst (λ (k : ℕ). Says (x ∷ []) (Refused k)) (sym e) (strange x (rw is at not))

-- the one message stands in the first six bytes
front : (messages x : List ℕ) → take (1 * departure_symbols) messages ≡ flat (x ∷ []) → take departure_symbols messages ≡ x
front messages x w = w ∙ append-nil x

says : (messages : List ℕ) (list : List (List ℕ)) {count : ℕ} {back : Heard} → count ≡ length list
    → take (length list * departure_symbols) messages ≡ flat list
    → Counted count messages back
    → Says list back
says messages list e w (none c) = says-none list (sym e ∙ c)
says messages list e w (many some few) = says-many list (λ h. some (e ∙ h)) (λ h. few (e ∙ h))
says messages (x ∷ []) e w (one c r h z) = says-one x (front messages x w) h z
says messages (x ∷ []) e w (other c r h n) = says-other x (front messages x w) h n
says messages [] e w (one c r h z) = absurd (omega arith)
says messages [] e w (other c r h n) = absurd (omega arith)
says messages (x ∷ y ∷ list) e w (one c r h z) = absurd (omega arith)
says messages (x ∷ y ∷ list) e w (other c r h n) = absurd (omega arith)

-- two tables that begin with the same refusals give the same number, if what follows does where none of these applies
first-after : (table xs ys : List Refusal) (number : ℕ) → (Passed table → First xs number → First ys number) → First (table ++ xs) number
    → First (table ++ ys) number
first-after [] xs ys number follows f = follows tt f
first-after (x ∷ rest) xs ys number follows (inl h) = inl h
first-after (x ∷ rest) xs ys number follows (inr (not, f)) = inr (not, first-after rest xs ys number (λ p. follows (not, p)) f)

abbrev pub lent_messages : List ℕ
lent_messages = replicate (height_most * departure_symbols) 0

module _ {points word : List ℕ} {m l t : ℕ} {room room' messages : List ℕ} {near : Near}
    (h : HasListed departure_field points word departure_symbols m l t room room' lent_messages messages near) where
  -- with m and l in range the messages' room is enough
  entry-first : First (hear_table points word m l t room) h.entry
  entry-first =
      let asked = list_table departure_field points word departure_symbols m l t room lent_messages in
      let table = hear_table points word m l t room in
      first-after (take 8 table) (drop 8 asked) (drop 8 table) h.entry
      (λ passed. narrower (λ short. passed.1.1.1.1.0 (inr (inr (inr (omega arith)))))) h.first

  pub heard-refused : (near.number ≡ 0 → ⊥) → HasHeard points word m l t room room' (Refused near.number)
  heard-refused n =
      record {
        entry = h.entry;
        first = entry-first;
        answers = λ z.
            let a = h.answers z in
            record {
              curve = a.curve;
              smallest = a.smallest;
              zeroed = a.zeroed;
              unvouched = λ k. ap (λ (x : Near). Refused x.number) (a.unvouched k).0;
              says = λ k. absurd (n (a.lists k).done);
            };
        refused = λ k. (ap (λ (x : Near). Refused x.number) (h.refused k).0, (h.refused k).1);
      }

  pub heard-listed : {back : Heard} → near.number ≡ 0 → Counted near.count messages back → HasHeard points word m l t room room' back
  heard-listed {back} done counted =
      record {
        entry = h.entry;
        first = entry-first;
        answers = λ z. answered (h.answers z);
        refused = λ n. absurd (n (sym (ap (λ (x : Near). x.number) (h.refused n).0) ∙ done));
      }
    where
      answered : Answers departure_field points word departure_symbols m l t room room' lent_messages messages near
          → AnswersBoard points word m l t room room' back
      answered a =
          record {
            curve = a.curve;
            smallest = a.smallest;
            zeroed = a.zeroed;
            unvouched = λ k. let e = ap (λ (x : Near). x.number) (a.unvouched k).0 in absurd (omega (arith, e, done));
            says = λ k. let s = a.lists k in (s.list, s.exactly, says messages s.list s.count s.written counted);
          }
