-- The job list, put together: what an accepted list knows of its request; start, one turn and finish give the curve of demand 2; on its bytes
-- the search may run; and what the search leaves is the answer.
use mathlib.Core.Path.{◌≡◌, refl, sym, ap, ◌∙◌}
use mathlib.Core.Logic.{inl, inr}
use mathlib.Core.List.{List}
use mathlib.Core.HLevel.{dec→stable}
use Prim.Native.Nat.{ℕ, zero, suc, ◌-◌, ◌*◌, ◌≤◌, ◌<◌}
use native.Mathlib.Decide.{ℕ_discrete}
use native.Mathlib.Omega.{arith}
use lib.ListN.{length}
use borrow.Author.Rules.{rules}
use Rattle.field.specs.Symbols.{symbols, symbols_of}
use Rattle.field.specs.Field.{Ring, FieldLaws}
use Rattle.field.proofs.SymbolLaws.{symbols-field}
use Rattle.std.specs.Prelude.{Result, Ok, Err, IsOk}
use Rattle.poly.specs.Limits.{allowance_most}
use Rattle.poly.specs.Polynomials.{locator}
use Rattle.poly.specs.Table.{First, NotListed, BadCount, BadDegree, BadHeights}
use Rattle.poly.specs.Limits.{working_room}
use Rattle.poly.specs.Lent.{Zeroed}
use Rattle.poly.specs.declared.refused.Refused.{Refused}
use Rattle.poly.proofs.RefusalLaws.{number_of-positive}
use Rattle.poly.proofs.TableLaws.{first_determined, first-passed, passed-first}
use Rattle.poly.proofs.Interpolating.{places-distinct}
use Rattle.poly.proofs.BufferLaws.{zeroed-after}
use Rattle.curves.specs.Curves.{Curve, Under}
use Rattle.curves.specs.Start.{start_row}
use Rattle.curves.proofs.FinishedTurns.{end_alike}
use Rattle.curves.proofs.Runs.{fresh_enters}
use Rattle.curves.proofs.Passing.{begins-same, begins-start}
use Rattle.curves.proofs.Leads.{under-mono}
use Rattle.curves.proofs.StartRows.{smallest-weight}
use Rattle.rows.specs.Bytes.{shape, curve_bytes, rows_of}
use Rattle.rows.specs.Jobs.{start_table, BadNote, size, count, degree, heights, row, HasStarted, Goes, HasTurned, HasFinished}
use Rattle.rows.specs.Demands.{Request, ring_for, shape_for, note_for, updates_bound, Begun, started, turned}
use Rattle.rows.specs.declared.Note.{Note}
use Rattle.rows.specs.Jobs.{Started, Turned, Finished}
use Rattle.rows.specs.Results.{started as as_started, finished as as_finished}
use Rattle.rows.specs.declared.Finished.{Finished as FinishedBack}
use Rattle.rows.proofs.Notes.{formula-most, good-note, good-fine}
use Rattle.rows.proofs.HeldRows.{holds-row}
use Rattle.rows.proofs.Demands.{demand_3, demand_2}
use Rattle.rows.proofs.Accepted.{Accepted, start-accepted, accepted-note}
use Rattle.rows.proofs.Placing.{rows-small}
use Rattle.near.specs.Job.{task_of, list_table, refusal, RuleUpdates, Lists, HasListed}
use Rattle.near.specs.Job.{Near}
use Rattle.near.specs.Lists.{IsList}
use Rattle.near.specs.Search.{found}
use Rattle.near.specs.Work.{curve_of, task_for, plan_of, Laid, Runs, Ran, FoundCurve}
use Rattle.near.specs.declared.Weighed.{Weighed}
use Rattle.near.specs.declared.search.Plan.{Plan}
use Rattle.near.proofs.Messages.{symbols_numbered}
use Rattle.near.proofs.Answer.{search-is-list, list-at-most}
use Rattle.near.proofs.search.Laying.{holds-curve, holds-laid}

pub record Taken (p : ℕ) (points word : List ℕ) (k m l t : ℕ) (room messages : List ℕ) : Type 0 where
  pub start : First (start_table p points word k m l room) 0
  pub accepted : Accepted p points word k m l room
  pub some : 1 ≤ t
  pub most : t ≤ length points
  pub working : working_room ≤ length room
  pub enough : l * k ≤ length messages

pub list-taken : (p : ℕ) (points word : List ℕ) (k m l t : ℕ) (room messages : List ℕ) → First (list_table p points word k m l t room messages) 0
    → Taken p points word k m l t room messages
list-taken p points word k m l t room messages first =
    let (listed, (counted, (spelt, (low, (high, (large, (repeated, (wanted, (short, _))))))))) =
    first-passed (list_table p points word k m l t room messages) (search rules) first refl in
    let few : t < 1 → ⊥ = λ h. wanted (inl h) in
    let many : length points < t → ⊥ = λ h. wanted (inr h) in
    let narrow : length room < working_room → ⊥ = λ h. short (inl h) in
    let tight : length messages < l * k → ⊥ = λ h. short (inr h) in
    let fine = good-fine (good-note {note = note} (good listed counted low high)) in
    let room-enough = rows-small fine in
    let start =
    passed-first (start_table p points word k m l room)
    (listed, (counted, (spelt, (low, (high, (large, (repeated, ((λ h. omega arith), tt)))))))) in
    record {
      start = start;
      accepted = start-accepted start refl;
      some = omega arith;
      most = omega arith;
      working = omega arith;
      enough = omega arith;
    }
  where
    note : Note
    note = record { p = p; n = length points; k = k; m = m; l = l; r = 1 }

    good : (NotListed p → ⊥) → (BadCount p (length points) → ⊥) → (BadDegree (length points) k → ⊥) → (BadHeights m l → ⊥) → BadNote note → ⊥
    good a b c d (size h) = a h
    good a b c d (count h) = b h
    good a b c d (degree h) = c h
    good a b c d (heights h) = d h
    good a b c d (row (inl h)) = omega arith
    good a b c d (row (inr h)) = omega arith

-- start accepts such a request
pub start-done : {p : ℕ} {points word : List ℕ} {k m l : ℕ} {room rows : List ℕ} {start : Started} → First (start_table p points word k m l room) 0
    → HasStarted p points word k m l room rows start → start.number ≡ 0
start-done {p} {points} {word} {k} {m} {l} {room} {start = start} first began =
    first_determined (start_table p points word k m l room) start.number 0 began.first first

-- a result with the number 0 is that of a job that was done
pub started-ok : (r : Result Note Refused) → (as_started r).number ≡ 0 → IsOk r
started-ok (Ok note) e = refl
started-ok (Err a) e = absurd (number_of-positive a e)

pub finished-ok : (r : Result FinishedBack Refused) → (as_finished r).number ≡ 0 → IsOk r
finished-ok (Ok back) e = refl
finished-ok (Err a) e = absurd (number_of-positive a e)

-- start, one turn with the largest allowance, which is more than all updates ever made, and finish
module _ {p : ℕ} {points word : List ℕ} {k m l : ℕ} {room rows new lent curve : List ℕ} {start : Started} {turn : Turned} {finish : Finished}
    (first : First (start_table p points word k m l room) 0) (began : HasStarted p points word k m l room rows start)
    (went : HasTurned start.note allowance_most rows new turn)
    (ended : HasFinished turn.note new lent curve finish) where
  abbrev q : Request
  q = record { p = p; points = points; word = word; k = k; m = m; l = l }

  accepted : Accepted p points word k m l room
  accepted = start-accepted first refl

  begun : Begun q room rows start
  begun = (began, start-done first began)

  enough : updates_bound q ≤ allowance_most
  enough =
      let size = accepted.places.size in
      let most = accepted.places.count in
      let h = accepted.heights in
      let x = formula-most (length points) k m l (omega arith) accepted.low h.some h.most h.high in
      omega arith

  turned-one : HasTurned (note_for q 1) allowance_most rows new turn
  turned-one = rw (begun.0.note begun.1) at went

  goes : Goes (note_for q 1) allowance_most rows new turn
  goes =
      turned-one.goes (dec→stable (ℕ_discrete turned-one.entry 0)
      (λ n. n (sym (turned-one.refused n).0 ∙ (demand_3 q (started begun)).accepted allowance_most new turn went)))

  at-end : goes.outcome.row ≡ suc l
  at-end = sym (ap (λ (x : Note). x.r) goes.next) ∙ (demand_3 q (turned allowance_most (started begun) went)).finished (omega (arith, enough))

  updates-rule : RuleUpdates p points word k m l turn.updates
  updates-rule =
      let Φ = symbols-field p accepted.places.size in
      let points-apart = places-distinct accepted.places in
      let low = accepted.low in
      let s = begun.0.rows begun.1 in
      let b = begins-start Φ points-apart (omega arith) accepted.degree accepted.heights.order s.through in
      let first : ℕ → Curve (ring_for q) = start_row (ring_for q) m (locator (ring_for q) (length points) (symbols_of p points)) s.h in
      let same : (i : ℕ) → i ≤ l → rows_of (shape_for q) rows i ≡ first i = λ i g.
      holds-row (shape_for q) rows g (first i) (λ j e. s.holds i j e g) (λ j e x. (b.fresh i g).height j e (omega arith))
      (b.fresh i g).within in
      let (o, t, e, u) = end_alike Φ (fresh_enters Φ (begins-same Φ same b).fresh) (λ i g. sym (same i g)) goes.turn at-end in
      record { h = s.h; through = s.through; allowance = allowance_most; outcome = o; turn = t; finished = e; are = goes.updates ∙ sym u }

  -- and finish hands over the curve
  pub finish-done : curve_bytes (shape_for q) ≤ length lent → finish.number ≡ 0
  finish-done fits = (demand_2 q begun enough went ended fits).done

  pub curve-found : curve_bytes (shape_for q) ≤ length lent
      → FoundCurve p points word k m l room new lent curve (record { updates = turn.updates; weight = finish.weight })
  curve-found fits =
      let hands = demand_2 q begun enough went ended fits in
      let small = rows-small (good-fine (accepted-note accepted)) in
      let a = begun.0.rest in
      let b = turned-one.rest in
      record {
        curve = hands.Q;
        smallest = hands.smallest;
        bytes = hands.bytes;
        long = ended.rest.long;
        weight_is = hands.weight;
        updates_are = updates-rule;
        rest = record { long = b.long ∙ a.long; same = λ s g. b.same s (omega arith) ∙ a.same s (omega arith) };
      }

-- on the curve's bytes the search may run where m t is above the weight, and it gives the list
module _ {p : ℕ} {points word : List ℕ} {k m l t : ℕ} {room cleared messages lent bytes : List ℕ} {back : Weighed}
    (taken : Taken p points word k m l t room messages) (f : FoundCurve p points word k m l room cleared lent bytes back)
    (enough : curve_bytes (shape p (length points) k m l) ≤ length lent) where
  abbrev plan : Plan
  plan = plan_of p (length points) k m l t

  abbrev R : Ring
  R = (symbols p).ring

  abbrev Q : Curve R
  Q = f.curve

  a : Accepted p points word k m l room
  a = taken.accepted

  Φ : FieldLaws (symbols p)
  Φ = symbols-field p a.places.size

  light : Under R (k - 1) (suc plan.shape.width) zero Q
  light =
      let s = f.smallest in
      let w = smallest-weight Φ (places-distinct a.places) a.heights.order s in
      under-mono R (k - 1) s.weight (suc s.power) (suc plan.shape.width) zero Q (omega arith) (λ h. absurd (omega arith)) s.lead.rest

  curve-is : curve_of plan.shape bytes ≡ Q
  curve-is = holds-curve plan.shape bytes Q f.bytes f.smallest.member.height light

  laid : Laid plan.shape bytes
  laid = holds-laid plan.shape bytes Q f.bytes f.smallest.member.height light (good-fine (accepted-note a)) (rw f.long enough)

  -- the curve's weight is at hand as the byte that interpolation gives
  module _ (vouched : back.weight < m * t) where
    above : f.smallest.weight < m * t
    above = rw f.weight_is at vouched

    abbrev list : List (List ℕ)
    list = found (task_for plan points word) (suc l) (suc plan.shape.width) Q

    exactly : IsList (task_of p points word k t) list
    exactly =
        search-is-list Φ (task_of p points word k t) (symbols_numbered a.places.size) (places-distinct a.places) f.smallest.member
        f.smallest.lead above (suc plan.shape.width)

    few : length list ≤ l
    few = list-at-most Φ (task_of p points word k t) (symbols_numbered a.places.size) (places-distinct a.places) f.smallest.member
        f.smallest.lead above list exactly

    pub search-runs : Runs plan points word bytes messages
    search-runs =
        let low = a.low in
        record {
          received =
              record {
                degree = omega arith;
                size = a.places.size;
                same = a.places.same;
                points_below = a.places.points_below;
                word_below = a.places.word_below;
              };
          laid = laid;
          few = rw curve-is few;
          room = taken.enough;
        }

    pub search-lists : {after : List ℕ} {r : ℕ}
        → Ran k (found (task_for plan points word) (suc l) (suc plan.shape.width) (curve_of plan.shape bytes)) messages after r
        → Lists p points word k m l t f.smallest.weight messages after
        (record { number = 0; count = r; updates = back.updates; weight = back.weight })
    search-lists {after} {r} ran = go (rw curve-is at ran)
      where
        go : Ran k list messages after r → Lists p points word k m l t f.smallest.weight messages after
            (record { number = 0; count = r; updates = back.updates; weight = back.weight })
        go ran =
            record {
              list = list;
              exactly = exactly;
              few = few;
              done = refl;
              count = ran.count;
              updates_are = f.updates_are;
              weight_is = f.weight_is;
              written = ran.written;
              rest = ran.rest;
            }

-- the three ways in which the job ends
module _ {p : ℕ} {points word : List ℕ} {k m l t : ℕ} {room messages : List ℕ} where
  pub list-refuses : {number : ℕ} → First (list_table p points word k m l t room messages) number → (number ≡ 0 → ⊥)
      → HasListed p points word k m l t room room messages messages (refusal number)
  list-refuses {number} first other = record { entry = number; first = first; answers = λ z. absurd (other z); refused = λ _. (refl, refl, refl) }

  module _ {used cleared lent bytes : List ℕ} {back : Weighed} (first : First (list_table p points word k m l t room messages) 0)
      (f : FoundCurve p points word k m l room used lent bytes back)
      (z : Zeroed working_room used cleared) where
    pub list-unvouched : m * t ≤ back.weight → HasListed p points word k m l t room cleared messages messages (refusal 13)
    list-unvouched le =
        let e = f.weight_is in
        record {
          entry = 0;
          first = first;
          answers = λ _.
              record {
                curve = f.curve;
                smallest = f.smallest;
                zeroed = zeroed-after f.rest z;
                unvouched = λ _. (refl, refl);
                lists = λ h. absurd (omega arith);
              };
          refused = λ n. absurd (n refl);
        }

    pub list-answers : {after : List ℕ} {near : Near} → back.weight < m * t → Lists p points word k m l t f.smallest.weight messages after near
        → HasListed p points word k m l t room cleared messages after near
    list-answers lt lists =
        let e = f.weight_is in
        record {
          entry = 0;
          first = first;
          answers = λ _.
              record {
                curve = f.curve;
                smallest = f.smallest;
                zeroed = zeroed-after f.rest z;
                unvouched = λ h. absurd (omega arith);
                lists = λ _. lists;
              };
          refused = λ n. absurd (n refl);
        }
