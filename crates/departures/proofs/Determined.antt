-- The contracts fix what the jobs on departures hand back and every byte that they were lent.
use mathlib.Core.Path.{◌≡◌, refl, sym, ap, ◌∙◌}
use mathlib.Core.List.{List}
use Prim.Native.Nat.{ℕ, ◌*◌, ◌<◌}
use native.Mathlib.Decide.{ℕ_discrete, dec_lt}
use native.Mathlib.Omega.{arith}
use lib.ListN.{length, get_or}
use lib.Seq.{get_or-take}
use Rattle.std.specs.Prelude.{Result, Ok, Err}
use Rattle.poly.specs.Table.{Refusal}
use Rattle.poly.specs.Refusals.{outcome}
use Rattle.poly.specs.declared.refused.Refused.{Refused as RefusedBack}
use Rattle.poly.proofs.RefusalLaws.{outcome-determines, number_of-determines, number_of-positive}
use Rattle.poly.proofs.TableLaws.{first_determined}
use Rattle.poly.proofs.BufferLaws.{untouched_unique, zeroed_unique}
use Rattle.curves.proofs.Least.{weight_unique}
use Rattle.near.proofs.Messages.{symbols_numbered}
use Rattle.near.proofs.Lists.{list_unique}
use Rattle.departures.specs.Jobs.{Puts, ReadsDeparture, read_table}
use Rattle.departures.specs.Hearing.{hear_table, departure_task, Says, AnswersBoard, HasHeard, heard_number, heard_departure}
use Rattle.departures.specs.Results.{reading, answered, heard}
use Rattle.departures.specs.Hearing.Says.{nothing, shows, strange, waits}
use Rattle.departures.specs.Jobs.{Reading}
use Rattle.departures.specs.Hearing.{Heard}
use Rattle.departures.specs.Hearing.Heard.{Refused}
use Rattle.departures.specs.declared.Departure.{Departure}
use Rattle.departures.specs.declared.Heard.{Heard as HeardBack}
use Rattle.departures.specs.declared.Heard.TheVariants.{None as NoneBack, One as OneBack, Several as SeveralBack}
use Rattle.departures.proofs.Outcomes.{reading-same}
use Rattle.departures.proofs.Hearing.{departures-listed}

-- two outcomes of the writer, or of the printer
pub puts_determined : {table : List Refusal} {text before after also : List ℕ} {x y : ℕ} → Puts table text before after x
    → Puts table text before also y
    → (x ≡ y) × (after ≡ also)
puts_determined {table} {text} {before} {after} {also} {x} {y} f g = (same, go (ℕ_discrete x 0))
  where
    same : x ≡ y
    same = first_determined table x y f.first g.first

    go : Dec (x ≡ 0) → after ≡ also
    go (no n) = f.refused n ∙ sym (g.refused (λ z. n (same ∙ z)))
    go (yes z) = untouched_unique (length text) (f.rest z) (g.rest y-zero) low
      where
        y-zero : y ≡ 0
        y-zero = sym same ∙ z

        low : (q : ℕ) → q < length text → get_or after q 0 ≡ get_or also q 0
        low q h =
            sym (get_or-take (length text) after q 0 h)
            ∙ ap (λ (xs : List ℕ). get_or xs q 0) (f.front z ∙ sym (g.front y-zero))
            ∙ get_or-take (length text) also q 0 h

-- of the reader
pub reading_determined : {xs : List ℕ} {x y : Reading} → ReadsDeparture xs x → ReadsDeparture xs y → x ≡ y
reading_determined {xs} {x} {y} f g =
    reading-same same (go (ℕ_discrete x.number 0))
  where
    same : x.number ≡ y.number
    same = first_determined (read_table xs) x.number y.number f.first g.first

    go : Dec (x.number ≡ 0) → x.departure ≡ y.departure
    go (yes z) = f.read z ∙ sym (g.read (sym same ∙ z))
    go (no n) = f.refused n ∙ sym (g.refused (λ z. n (same ∙ z)))

-- of the board's question
says_determined : {list : List (List ℕ)} {x y : Heard} → Says list x → Says list y → x ≡ y
says_determined nothing nothing = refl
says_determined (shows x d) (shows y e) = refl
says_determined (shows x d) (strange y n) = absurd (n d)
says_determined (strange x n) (shows y e) = absurd (n e)
says_determined (strange x n) (strange y k) = refl
says_determined (waits x y list) (waits z w rest) = refl

module _ {points word : List ℕ} {m l t : ℕ} {room : List ℕ} where
  pub heard_determined : {cleared zeros : List ℕ} {x y : Heard} → HasHeard points word m l t room cleared x
      → HasHeard points word m l t room zeros y
      → (x ≡ y) × (cleared ≡ zeros)
  heard_determined {cleared} {zeros} {x} {y} f g = go (ℕ_discrete f.entry 0)
    where
      same : f.entry ≡ g.entry
      same = first_determined (hear_table points word m l t room) f.entry g.entry f.first g.first

      answered : AnswersBoard points word m l t room cleared x → AnswersBoard points word m l t room zeros y → (x ≡ y) × (cleared ≡ zeros)
      answered a b = (two (dec_lt a.smallest.weight (m * t)), zeroed_unique a.zeroed b.zeroed)
        where
          weight : a.smallest.weight ≡ b.smallest.weight
          weight = weight_unique a.smallest b.smallest

          two : Dec (a.smallest.weight < m * t) → x ≡ y
          two (no h) = a.unvouched (omega arith) ∙ sym (b.unvouched (omega (arith, weight)))
          two (yes h) =
              let (list, exactly, says) = a.says h in
              let (also, exact, say) = b.says (rw weight at h) in
              let e = list_unique (departure_task points word t) (symbols_numbered departures-listed) list also exactly exact in
              says_determined (rw e at says) say

      go : Dec (f.entry ≡ 0) → (x ≡ y) × (cleared ≡ zeros)
      go (yes z) = answered (f.answers z) (g.answers (sym same ∙ z))
      go (no n) =
          let a = f.refused n in
          let b = g.refused (λ z. n (same ∙ z)) in
          (a.0 ∙ ap Refused same ∙ sym b.0, a.1 ∙ sym b.1)

-- the numbers of a result tell it, so two outcomes of a job for the same arguments are the same result
pub reading-determines : (a b : Result Departure RefusedBack) → reading a ≡ reading b → a ≡ b
reading-determines (Ok x) (Ok y) e = ap (λ (r : Reading). Ok r.departure) e
reading-determines (Ok x) (Err b) e = absurd (number_of-positive b (sym (ap (λ (r : Reading). r.number) e)))
reading-determines (Err a) (Ok y) e = absurd (number_of-positive a (ap (λ (r : Reading). r.number) e))
reading-determines (Err a) (Err b) e = ap Err (number_of-determines a b (ap (λ (r : Reading). r.number) e))

answered-determines : (a b : HeardBack) → answered a ≡ answered b → a ≡ b
answered-determines NoneBack NoneBack e = refl
answered-determines (OneBack d) (OneBack x) e = ap OneBack (ap heard_departure e)
answered-determines SeveralBack SeveralBack e = refl
answered-determines NoneBack (OneBack x) e = cc
answered-determines NoneBack SeveralBack e = cc
answered-determines (OneBack d) NoneBack e = cc
answered-determines (OneBack d) SeveralBack e = cc
answered-determines SeveralBack NoneBack e = cc
answered-determines SeveralBack (OneBack x) e = cc

answered-some : (a : HeardBack) (number : ℕ) → answered a ≡ Refused number → ⊥
answered-some NoneBack number e = cc
answered-some (OneBack d) number e = cc
answered-some SeveralBack number e = cc

pub heard-determines : (a b : Result HeardBack RefusedBack) → heard a ≡ heard b → a ≡ b
heard-determines (Ok x) (Ok y) e = ap Ok (answered-determines x y e)
heard-determines (Ok x) (Err b) e = absurd (answered-some x _ e)
heard-determines (Err a) (Ok y) e = absurd (answered-some y _ (sym e))
heard-determines (Err a) (Err b) e = ap Err (number_of-determines a b (ap heard_number e))

pub puts_result_determined : {table : List Refusal} {text before after also : List ℕ} (a b : Result Unit RefusedBack)
    → Puts table text before after (outcome a) → Puts table text before also (outcome b) → (a ≡ b) × (after ≡ also)
puts_result_determined a b f g = let (e, bytes) = puts_determined f g in (outcome-determines a b e, bytes)

pub reading_result_determined : {xs : List ℕ} (a b : Result Departure RefusedBack) → ReadsDeparture xs (reading a) → ReadsDeparture xs (reading b)
    → a ≡ b
reading_result_determined a b f g = reading-determines a b (reading_determined f g)

pub heard_result_determined : {points word : List ℕ} {m l t : ℕ} {room cleared zeros : List ℕ} (a b : Result HeardBack RefusedBack)
    → HasHeard points word m l t room cleared (heard a) → HasHeard points word m l t room zeros (heard b) → (a ≡ b) × (cleared ≡ zeros)
heard_result_determined a b f g = let (e, bytes) = heard_determined f g in (heard-determines a b e, bytes)
