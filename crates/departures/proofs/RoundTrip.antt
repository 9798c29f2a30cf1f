-- The jobs one after the other: the reader after the writer, the writer after the reader, and that no two minutes print alike.
use mathlib.Core.Path.{◌≡◌, sym, ap, ◌∙◌}
use mathlib.Core.Logic.{⊎_elim}
use mathlib.Core.List.{List}
use Prim.Native.Nat.{ℕ, ◌≤◌}
use lib.ListN.{length, take}
use Rattle.departures.specs.Departures.{IsDeparture, six_symbols, departure_of, departure_symbols, time_bytes}
use Rattle.departures.specs.Jobs.{WritesDeparture, ReadsDeparture, ShowsDeparture}
use Rattle.departures.specs.declared.Departure.{Departure}
use Rattle.departures.specs.Jobs.{Reading}
use Rattle.departures.proofs.DepartureLaws.{six-spell, six_departure, spelt-six, spelt-range, clock-once}
use Rattle.departures.proofs.Outcomes.{put-passed, put-done, read-passed, reading-same}

-- what was written is read as the departure that it was
pub read-written : {d : Departure} (before : List ℕ) {after : List ℕ} {number : ℕ} {back : Reading}
    → WritesDeparture d before after number → number ≡ 0 → ReadsDeparture (take departure_symbols after) back
    → back ≡ record { number = 0; departure = d }
read-written {d} before {after} {back = back} wrote z has =
    reading-same done (has.read done ∙ ap departure_of (wrote.front z) ∙ six-spell d)
  where
    done : back.number ≡ 0
    done =
        ⊎_elim (λ h. absurd (h.0 (rw (wrote.front z) (six_departure d (put-passed before wrote.first z).0)))) (λ h. h.1) has.first

-- what was read is written as the six symbols that it was, where there is room for them
pub write-read : {xs : List ℕ} {back : Reading} (before : List ℕ) {after : List ℕ} {number : ℕ} → ReadsDeparture xs back → back.number ≡ 0
    → departure_symbols ≤ length before → WritesDeparture back.departure before after number
    → (number ≡ 0) × (take departure_symbols after ≡ xs)
write-read {xs} {back} before {after} {number} has z room wrote = (done, wrote.front done ∙ ap six_symbols (has.read z) ∙ spelt-six is.spelt)
  where
    is : IsDeparture xs
    is = read-passed has.first z

    done : number ≡ 0
    done = put-done before (rw (has.read z) (spelt-range is.spelt is.minute)) room wrote.first

-- two departures that print alike leave in the same minute of their service day: 24:15 is never 00:15
pub shown-once : {a b : Departure} (before : List ℕ) {after : List ℕ} {x : ℕ} (other : List ℕ) {also : List ℕ} {y : ℕ}
    → ShowsDeparture a before after x → x ≡ 0 → ShowsDeparture b other also y → y ≡ 0
    → take time_bytes after ≡ take time_bytes also
    → a.minute ≡ b.minute
shown-once {a} {b} before other f z g w e =
    clock-once a.minute b.minute (put-passed before f.first z).0.minute (put-passed other g.first w).0.minute
    (sym (f.front z) ∙ e ∙ g.front w)
