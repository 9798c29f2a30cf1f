-- The whole way: each job's contract, where none of them refuses, and what a board hears at the end.
use mathlib.Core.Path.{◌≡◌, refl, sym, ◌∙◌}
use mathlib.Core.Logic.{⊎_elim}
use mathlib.Core.List.{List}
use Prim.Native.Nat.{ℕ, ◌+◌, ◌≤◌}
use native.Mathlib.Omega.{arith}
use lib.ListN.{length, take}
use lib.Seq.{take_all}
use Rattle.std.specs.Prelude.{Result, Ok, Err, IsOk}
use Rattle.poly.specs.Table.{BadCount, BadDegree, TooLarge, Repeated, TooShort}
use Rattle.poly.specs.Limits.{working_room}
use Rattle.poly.specs.Encode.{Encoded, encode_table}
use Rattle.poly.specs.Buffers.{AllBelow}
use Rattle.poly.specs.Refusals.{outcome}
use Rattle.poly.specs.declared.refused.Refused.{Refused}
use Rattle.poly.proofs.RefusalLaws.{number_of-positive}
use Rattle.poly.proofs.TableLaws.{Passed, first_determined, passed-first, not_unlisted, none-large, good-count, good-degree}
use Rattle.departures.specs.Departures.{InRange, six_symbols, departure_field, departure_symbols}
use Rattle.departures.specs.Jobs.{WritesDeparture}
use Rattle.departures.specs.Hearing.{HasHeard, Hears, disturbed}
use Rattle.departures.specs.declared.Departure.{Departure}
use Rattle.departures.specs.Hearing.{Heard}
use Rattle.departures.proofs.DepartureLaws.{six_departure}
use Rattle.departures.proofs.Outcomes.{put-done}
use Rattle.departures.proofs.Hearing.{departures-listed, sent_heard}
use Rattle.sailing.specs.Voyage.{AllPoints, Disturbs, Sailed, multiplicity, height, wanted, disturbed_most}

-- all points are symbols, and no two of them are equal
module _ {points : List ℕ} (all : AllPoints points) where
  points_below : AllBelow departure_field points
  points_below i h = let e = all.each i (omega (arith, all.long)) in omega arith

  points-apart : Repeated points → ⊥
  points-apart r =
      let a = all.each r.first (omega (arith, all.long, r.apart, r.inside)) in
      let b = all.each r.second (omega (arith, all.long, r.inside)) in
      omega (arith, a, b, r.same, r.apart)

  -- so the six symbols of a departure are encoded
  encode-done : {d : Departure} {empty sent : List ℕ} {number : ℕ} → InRange d → length empty ≡ departure_field
      → Encoded departure_field points (six_symbols d) empty sent number
      → number ≡ 0
  encode-done {d} {empty} {sent} {number} range room encoded =
      let table = encode_table departure_field points (six_symbols d) empty in
      let n = all.long in
      let short : TooShort (length points) empty → ⊥ = λ h. omega (arith, n, room, h) in
      let small : TooLarge departure_field (six_symbols d) → ⊥ = none-large (six_departure d range).spelt.small in
      let count : BadCount departure_field (length points) → ⊥ = good-count (omega (arith, n)) (omega (arith, n)) in
      let degree : BadDegree (length points) departure_symbols → ⊥ = good-degree (omega arith) (omega (arith, n)) in
      let passed : Passed table =
      (not_unlisted departures-listed, (count, (degree, (⊎_elim (none-large points_below) small, (points-apart, (short, tt)))))) in
      first_determined table number 0 encoded.first (passed-first table passed)

-- a message that was written is those six symbols
module _ {d : Departure} (range : InRange d) {blank message : List ℕ} {x : ℕ} (six : length blank ≡ departure_symbols)
    (wrote : WritesDeparture d blank message x) where
  written-done : x ≡ 0
  written-done = put-done blank range (omega arith) wrote.first

  written-whole : take departure_symbols message ≡ message
  written-whole = take_all departure_symbols message (omega (arith, (wrote.rest written-done).long, six))

  -- so it is encoded
  pub written-encodes : {points empty sent : List ℕ} {y : ℕ} → AllPoints points → length empty ≡ departure_field
      → Encoded departure_field points message empty sent y
      → y ≡ 0
  written-encodes all long encoded =
      let spelled = sym written-whole ∙ wrote.front written-done in encode-done all range long (rw spelled at encoded)

-- a result without a refusal
pub done-ok : (r : Result Unit Refused) → outcome r ≡ 0 → IsOk r
done-ok (Ok _) e = refl
done-ok (Err refused) e = absurd (number_of-positive refused e)

-- the four jobs one after the other
module _ {d : Departure} (range : InRange d) {blank message points empty sent received : List ℕ} {x y : ℕ} where
  pub sailed : {count : ℕ} {room cleared : List ℕ} {heard : Heard} → length blank ≡ departure_symbols → WritesDeparture d blank message x
      → AllPoints points → length empty ≡ departure_field
      → Encoded departure_field points message empty sent y
      → Disturbs count sent received
      → working_room ≤ length room
      → HasHeard points received multiplicity height wanted room cleared heard
      → Sailed d count heard
  sailed six wrote all long encoded disturbs enough hears =
      let written = written-done range six wrote in
      let whole = written-whole range six wrote in
      let done = written-encodes range six wrote all long encoded in
      record {
        blank = blank;
        message = message;
        written = rw written at wrote;
        points = points;
        all = all;
        empty = empty;
        sent = sent;
        encoded = rw (done, sym whole) at encoded;
        whole = encoded.long ∙ long;
        received = received;
        disturbs = disturbs;
        room = _;
        enough = enough;
        cleared = _;
        hears = hears;
      }

-- what a board hears of a departure that sailed with few enough symbols disturbed
pub sailed_heard : {d : Departure} {count : ℕ} {heard : Heard} → Sailed d count heard → count ≤ disturbed_most → Hears d heard
sailed_heard s few =
    let changed = rw s.whole at s.disturbs.changed in
    let enough : disturbed departure_field s.sent s.received + wanted ≤ departure_field = omega (arith, changed, few) in
    sent_heard s.written s.encoded (rw s.all.long enough) s.hears
