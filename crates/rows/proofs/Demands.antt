-- Demands 2 and 3. At every pause the rows are those that a run from the starting rows left, so what is promised of runs holds of them.
use mathlib.Core.Path.{◌≡◌, refl, sym, ap, ◌∙◌}
use mathlib.Core.Logic.{◌⊎◌, inl, inr}
use mathlib.Core.List.{List, [], ◌∷◌, ◌++◌}
use Prim.Native.Nat.{ℕ, suc, ◌+◌, ◌-◌, ◌*◌, ◌≤◌, ◌<◌, min}
use native.Mathlib.Omega.{arith}
use lib.ListN.{length}
use Rattle.field.specs.Field.{Field, FieldLaws}
use Rattle.field.specs.Symbols.{symbols, symbols_of}
use Rattle.field.proofs.SymbolLaws.{symbols-field}
use Rattle.poly.specs.Polynomials.{locator}
use Rattle.poly.proofs.TableLaws.{first_determined}
use Rattle.poly.proofs.Interpolating.{places-distinct}
use Rattle.curves.specs.Curves.{Curve, Smallest}
use Rattle.curves.specs.Start.{start_row, total}
use Rattle.curves.specs.Turns.{Outcome, stops, Turn}
use Rattle.curves.specs.Finish.{monic}
use Rattle.curves.proofs.Promises.{allowed, after, Run, none, Promised}
use Rattle.curves.proofs.Leads.{lead-light}
use Rattle.curves.proofs.Least.{monic-weight, monic-height}
use Rattle.curves.proofs.Runs.{fresh_enters, run-then, allowed-then, allowed-some}
use Rattle.curves.proofs.Formula.{formula-is, formula_positive}
use Rattle.curves.proofs.Passing.{Begins, begins-same, promised, run-generates, run-smallest, run_unique, begins-start, passing-curve_exists}
use Rattle.rows.specs.Bytes.{rows_bytes, curve_bytes, rows_of}
use Rattle.rows.specs.Jobs.{HasTurned, HasFinished, Hands, finish_table}
use Rattle.rows.specs.Jobs.{Started, Turned, Finished}
use Rattle.rows.specs.Work.{Ready}
use Rattle.rows.specs.Demands.{Request, ring_for, shape_for, note_for, updates_bound, Member, Begun, Driven, started, turned, HandsCurve, Pause}
use Rattle.rows.specs.declared.Note.{Note}
use Rattle.rows.proofs.Placing.{holds-bytes}
use Rattle.rows.proofs.Notes.{GoodNote, good-note, good-fine, not_bad}
use Rattle.rows.proofs.HeldRows.{holds-row}
use Rattle.rows.proofs.Accepted.{Accepted, start-accepted, accepted-note}
use Rattle.rows.proofs.Turning.{ready-left, ready-entry, goes-rows, goes-ready}

-- by how much row r may weigh more than u r and the degree of its coefficient of y^r
abbrev surplus : Request → ℕ → ℕ
surplus q r = min r q.m * (length q.points - q.k)

-- the run that led to a pause
record Stands (q : Request) (sum : ℕ) (rows : List ℕ) (note : Note) (made : ℕ) : Type 0 where
  start : ℕ → Curve (ring_for q)
  begins : Begins (symbols q.p) (q.k - 1) (shape_for q).width q.l (surplus q) (Member q) start
  list : List ℕ
  outcome : Outcome (symbols q.p)
  run : Run (symbols q.p) (q.k - 1) q.l list start 1 outcome
  ready : Ready (note_for q outcome.row) rows
  rows_are : rows_of (shape_for q) rows ≡ outcome.rows
  note_is : note ≡ note_for q outcome.row
  sum_is : sum ≡ allowed list
  made_is : made ≡ outcome.updates

module _ (q : Request) where
  abbrev F : Field
  F = symbols q.p

  module _ {before after : List ℕ} {back : Started} (begun : Begun q before after back) where
    accepted : Accepted q.p q.points q.word q.k q.m q.l before
    accepted = start-accepted begun.0.first begun.1

    started-stands : Stands q 0 after back.note 0
    unfolding allowed
    started-stands =
        let Φ = symbols-field q.p accepted.places.size in
        let points = places-distinct accepted.places in
        let low = accepted.low in
        let good = accepted-note accepted in
        let s = begun.0.rows begun.1 in
        let b = begins-start Φ points (omega arith) accepted.degree accepted.heights.order s.through in
        let rows : ℕ → Curve (ring_for q) =
        start_row (ring_for q) q.m (locator (ring_for q) (length q.points) (symbols_of q.p q.points)) s.h in
        let begins =
        begins-same Φ (λ i k. holds-row (shape_for q) after k (rows i) (λ j e. s.holds i j e k) (λ j e x. (b.fresh i k).height j e (omega arith))
        (b.fresh i k).within) b in
        record {
          start = rows_of (shape_for q) after;
          begins = begins;
          list = [];
          outcome = stops F 0 (rows_of (shape_for q) after) 1;
          run = none;
          ready =
              record {
                good = not_bad good;
                bytes = holds-bytes (shape_for q) after rows s.holds (good-fine good) (rw begun.0.rest.long accepted.room);
                sound = fresh_enters Φ begins.fresh;
              };
          rows_are = refl;
          note_is = begun.0.note begun.1;
          sum_is = refl;
          made_is = refl;
        }

    -- the curve of demand 2 exists for every request that start accepts
    pub curve_exists : (Q : Curve (ring_for q)) × Smallest (ring_for q) (q.k - 1) (Member q) Q
        × ((P : Curve (ring_for q)) → Smallest (ring_for q) (q.k - 1) (Member q) P → P ≡ Q)
    curve_exists =
        let low = accepted.low in
        passing-curve_exists (symbols-field q.p accepted.places.size) (places-distinct accepted.places) (omega arith) accepted.degree
        accepted.heights.order

  module _ {sum : ℕ} {rows : List ℕ} {note : Note} {made : ℕ} (s : Stands q sum rows note made) where
    abbrev o : Outcome F
    o = s.outcome

    good : GoodNote (note_for q o.row)
    good = good-note s.ready.good

    Φ : FieldLaws F
    Φ = symbols-field q.p good.size

    promise : Promised F (q.k - 1) (shape_for q).width q.l (surplus q) s.start s.list o
    promise = promised Φ s.begins s.run

    -- the next turn is accepted and goes by the rule: a turn more in the run
    stands-turned : {a : ℕ} {new : List ℕ} {back : Turned} → HasTurned note a rows new back
        → (back.number ≡ 0) × Stands q (sum + a) new back.note (made + back.updates)
    stands-turned {a} {new} {back} t = go (rw s.note_is at t)
      where
        go : HasTurned (note_for q o.row) a rows new back → (back.number ≡ 0) × Stands q (sum + a) new back.note (made + back.updates)
        go t =
            let g = t.goes (ready-entry t s.ready) in
            let turn : Turn F (q.k - 1) q.l a o.rows o.row g.outcome = rw s.rows_are at g.turn in
            let run = run-then s.run turn in
            let number = (promised Φ s.begins run).number in
            let sum_is = s.sum_is in
            let made_is = s.made_is in (
              g.number ∙ omega arith,
              record {
                start = s.start;
                begins = s.begins;
                list = s.list ++ (a ∷ []);
                outcome = after F o g.outcome;
                run = run;
                ready = goes-ready s.ready g t.rest;
                rows_are = goes-rows s.ready g t.rest;
                note_is = g.next;
                sum_is = omega (arith, allowed-then s.list a);
                made_is = omega (arith, g.updates);
              },
            )

    row-is : note.r ≡ o.row
    row-is = ap (λ (x : Note). x.r) s.note_is

    bound-is : total q.l (λ r. r * surplus q r) ≡ updates_bound q
    bound-is = formula-is (length q.points) q.k q.m q.l good.heights.order

    stands-finished : updates_bound q ≤ allowed s.list → o.row ≡ suc q.l
    stands-finished h =
        let positive = formula_positive (length q.points) q.k q.m q.l good.degree good.heights.some in
        promise.finished (allowed-some s.list (omega arith)) (rw bound-is h)

    stands-hands : o.row ≡ suc q.l → {before new : List ℕ} {back : Finished} → HasFinished (note_for q o.row) rows before new back
        → curve_bytes (shape_for q) ≤ length before → HandsCurve q new back
    stands-hands e {before} {new} {back} f room =
        record {
          done = done;
          Q = Q;
          smallest = smallest;
          only = λ P p. run_unique Φ s.begins s.run e P Q p smallest;
          bytes = hands.bytes;
          weight = sym weight;
          light =
              rw weight (lead-light hands.lightest.lead (shape_for q).width
              (promise.kept.sound.light hands.row hands.lightest.inside));
          height = monic-height Φ hands.lightest.lead hands.tall;
        }
      where
        done : back.number ≡ 0
        done =
            first_determined (finish_table (note_for q o.row) rows before) back.number 0 f.first
            (inr (s.ready.good, inr (enough, inr (λ h. omega arith, inr (λ n. n (ready-left s.ready), refl)))))
          where
            enough : (length rows < rows_bytes (shape_for q)) ⊎ (length before < curve_bytes (shape_for q)) → ⊥
            enough (inl h) = omega (arith, s.ready.bytes.room)
            enough (inr h) = omega arith

        hands : Hands (shape_for q) o.rows new back.weight back.height
        hands = rw s.rows_are at (f.curve done)

        Q : Curve (ring_for q)
        Q = monic F hands.row hands.lightest.lead.degree (o.rows hands.row)

        smallest : Smallest (ring_for q) (q.k - 1) (Member q) Q
        smallest = run-smallest Φ s.begins s.run e hands.lightest

        weight : smallest.weight ≡ back.weight
        weight = monic-weight Φ hands.lightest.lead smallest.lead

    stands_pause : Pause q sum rows note made
    stands_pause =
        record {
          accepted = λ a new back t. (stands-turned t).0;
          numbers = s.note_is ∙ ap (note_for q) (sym row-is);
          generated = rw s.rows_are (run-generates Φ s.begins s.run);
          leads = λ i h. let k = promise.kept.inside in
              rw s.rows_are (promise.kept.sound.own i (omega (arith, row-is)) (omega (arith, row-is)));
          bounded = let c = promise.count in let e = s.made_is in omega (arith, bound-is);
          finished = λ h. row-is ∙ stands-finished (rw s.sum_is at h);
          curve = λ e before new back h room. stands-hands (sym row-is ∙ e) (rw s.note_is at h) room;
        }

  driven-stands : {sum made : ℕ} {rows : List ℕ} {note : Note} → Driven q sum rows note made → Stands q sum rows note made
  driven-stands (started b) = started-stands b
  driven-stands (turned a d t) = (stands-turned (driven-stands d) t).1

  pub demand_3 : {sum made : ℕ} {rows : List ℕ} {note : Note} → Driven q sum rows note made → Pause q sum rows note made
  demand_3 d = stands_pause (driven-stands d)

  -- an accepted start, one turn with an allowance of the formula or more, and a finish with room give the curve of demand 2
  pub demand_2 : {before rows new lent curve : List ℕ} {start : Started} {turn : Turned} {finish : Finished} {allowance : ℕ}
      → Begun q before rows start → updates_bound q ≤ allowance
      → HasTurned start.note allowance rows new turn → HasFinished turn.note new lent curve finish → curve_bytes (shape_for q) ≤ length lent
      → HandsCurve q curve finish
  demand_2 {lent = lent} {curve} {finish = finish} {allowance} b le t f room =
      let p = demand_3 (turned allowance (started b) t) in p.curve (p.finished (omega arith)) lent curve finish f room
