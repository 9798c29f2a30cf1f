-- How the writer, the printer and the reader end: what is known where none of their refusals applies; the text at the front of the lent
-- bytes and the rest as it was, or every byte as it was.
use mathlib.Core.Path.{◌≡◌, refl, ap, ap₂, ◌∙◌}
use mathlib.Core.Logic.{inr}
use mathlib.Core.List.{List}
use mathlib.Core.HLevel.{dec→stable}
use Prim.Native.Nat.{ℕ, ◌+◌, ◌≤◌}
use native.Mathlib.Decide.{ℕ_discrete, dec_lt, dec_le}
use native.Mathlib.Omega.{arith}
use lib.ListN.{length, get_or, take, drop}
use lib.Seq.{sets, sets-eq, length-sets, take-append_seam}
use borrow.Author.Rules.{rules}
use Rattle.field.proofs.Lists.{get_or-sets-after}
use Rattle.poly.specs.Table.{Refusal, First}
use Rattle.poly.proofs.TableLaws.{first_determined, first-passed}
use Rattle.departures.specs.Departures.{InRange, IsDeparture}
use Rattle.departures.specs.Jobs.{put_table, read_table, Puts}
use Rattle.departures.specs.declared.Departure.{Departure}
use Rattle.departures.specs.Jobs.{Reading}

pub reading-same : {a b : Reading} → a.number ≡ b.number → a.departure ≡ b.departure → a ≡ b
reading-same p q = ap₂ (λ (n : ℕ) (d : Departure). record { number = n; departure = d }) p q

-- what is known where no refusal applies
pub put-passed : {d : Departure} {size number : ℕ} (room : List ℕ) → First (put_table d size room) number → number ≡ 0
    → InRange d × (size ≤ length room)
put-passed {d} {size} room first z =
    let (range, (long, _)) = first-passed (put_table d size room) (search rules) first z in (
      record {
        boat = dec→stable (dec_le _ _) (λ n. range (λ r. n r.boat));
        day = dec→stable (dec_le _ _) (λ n. range (λ r. n r.day));
        minute = dec→stable (dec_le _ _) (λ n. range (λ r. n r.minute));
      },
      dec→stable (dec_le _ _) (λ n. long (omega arith)),
    )

pub read-passed : {xs : List ℕ} {number : ℕ} → First (read_table xs) number → number ≡ 0 → IsDeparture xs
read-passed {xs} first z =
    let (is, _) = first-passed (read_table xs) (search rules) first z in
    record {
      spelt = record {
        long = dec→stable (ℕ_discrete _ _) (λ n. is (λ d. n d.spelt.long));
        small = λ i h. dec→stable (dec_lt _ _) (λ n. is (λ d. n (d.spelt.small i h)));
      };
      minute = dec→stable (dec_le _ _) (λ n. is (λ d. n d.minute));
    }

-- and the number is 0 where none applies
pub put-done : {d : Departure} {size number : ℕ} (room : List ℕ) → InRange d → size ≤ length room → First (put_table d size room) number
    → number ≡ 0
put-done {d} {size} {number} room range long first =
    first_determined (put_table d size room) number 0 first (inr ((λ n. n range), inr ((λ h. omega arith), refl)))

module _ {table : List Refusal} {text before : List ℕ} where
  pub puts-refuses : {number : ℕ} → First table number → (number ≡ 0 → ⊥) → Puts table text before before number
  puts-refuses f n = record { first = f; front = λ z. absurd (n z); rest = λ z. absurd (n z); refused = λ _. refl }

  pub puts-done : {after : List ℕ} → First table 0 → length text ≤ length before → after ≡ sets before 0 text → Puts table text before after 0
  puts-done {after} f room e =
      record {
        first = f;
        front = λ _. ap (take (length text)) (e ∙ sets-eq text before 0 (omega arith)) ∙ take-append_seam text (drop (0 + length text) before);
        rest = λ _. record {
          long = ap length e ∙ length-sets before 0 text;
          same = λ q h. ap (λ (xs : List ℕ). get_or xs q 0) e ∙ get_or-sets-after before 0 text q 0 (omega arith);
        };
        refused = λ n. absurd (n refl);
      }
