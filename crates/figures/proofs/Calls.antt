-- What start, turn and finish give once the rule is worked out on the starting rows: the turn goes by it, and the curve of demand 2 is the
-- lightest of the rows that it leaves.
use mathlib.Core.Path.{◌≡◌, refl, sym, ap, ◌∙◌}
use mathlib.Core.Logic.{◌≢◌}
use mathlib.Core.List.{List}
use Prim.Native.Nat.{ℕ, suc, ◌-◌, ◌+◌, ◌*◌, ◌≤◌, min, zero-le}
use native.Mathlib.Decide.{ℕ_discrete}
use native.Mathlib.Omega.{arith}
use lib.ListN.{length, get_or, take}
use lib.Seq.{ext_get_or, get_or-take, length-take-le}
use Rattle.field.specs.Field.{FieldLaws}
use Rattle.field.specs.Symbols.{symbols, symbols_of}
use Rattle.field.proofs.SymbolLaws.{symbols-field, zero-byte}
use Rattle.poly.specs.Polynomials.{Seq, Through, locator}
use Rattle.poly.proofs.Interpolating.{places-distinct, places-only}
use Rattle.curves.specs.Curves.{Curve, Smallest}
use Rattle.curves.specs.Start.{start_row}
use Rattle.curves.specs.Turns.{Outcome, Turn}
use Rattle.curves.specs.Entry.{Sound}
use Rattle.curves.specs.Finish.{Lightest, monic}
use Rattle.curves.specs.Curves.{HasHeight}
use Rattle.curves.proofs.Promises.{Fresh, none, turn}
use Rattle.curves.proofs.Leads.{lead-degree}
use Rattle.curves.proofs.Heights.{height_unique}
use Rattle.curves.proofs.Least.{monic-weight, weight_unique}
use Rattle.curves.proofs.Determined.{rule_determined}
use Rattle.curves.proofs.Turns.{turn-keeps}
use Rattle.curves.proofs.StartRows.{start-fresh}
use Rattle.curves.proofs.FlatRows.{turn-flat}
use Rattle.curves.proofs.Runs.{fresh_enters}
use Rattle.curves.proofs.Passing.{begins-start, run-smallest}
use Rattle.rows.specs.Bytes.{slot, curve_bytes, rows_of, Holds, HoldsCurve}
use Rattle.rows.specs.Jobs.{HasTurned, Goes}
use Rattle.rows.specs.Demands.{Request, ring_for, shape_for, note_for, updates_bound, Member, Begun, HandsCurve, started}
use Rattle.rows.specs.declared.Shape.{Shape}
use Rattle.rows.proofs.Placing.{in-curve}
use Rattle.rows.proofs.HeldRows.{holds-row, holds-flat, rows_of-flat}
use Rattle.rows.proofs.Accepted.{Accepted, start-accepted}
use Rattle.rows.proofs.Demands.{demand_2, demand_3}
use Rattle.rows.proofs.Determined.{started-same, turned-same, finished-same}
use Rattle.figures.specs.Figures.{Calls, Gives}

module _ (q : Request) where
  abbrev pub Interpolates : Seq (ring_for q) → Type 0
  Interpolates = Through (ring_for q) (length q.points) (symbols_of q.p q.points) (symbols_of q.p q.word)

  -- the starting rows, and rows that are these up to row l
  abbrev pub start_for : Seq (ring_for q) → ℕ → Curve (ring_for q)
  start_for = start_row (ring_for q) q.m (locator (ring_for q) (length q.points) (symbols_of q.p q.points))

  abbrev pub AtStart : Seq (ring_for q) → (ℕ → Curve (ring_for q)) → Type 0
  AtStart h rows = (i : ℕ) → i ≤ q.l → rows i ≡ start_for h i

  -- what may be row i at the start
  abbrev FreshRow : ℕ → Curve (ring_for q) → Type 0
  FreshRow i = Fresh (ring_for q) (q.k - 1) (shape_for q).width (min i q.m * (length q.points - q.k)) i

  -- the rule worked out, for any allowance that is enough: the updates made, the rows left, the lightest of them, which is of height l, and
  -- its bytes once it is made monic
  pub record Worked (made row weight : ℕ) (bytes : List ℕ) : Type 0 where
    pub h : Seq (ring_for q)
    pub through : Interpolates h
    pub left : (ℕ → Curve (ring_for q)) → ℕ → Curve (ring_for q)
    pub turn : (a : ℕ) → updates_bound q ≤ a → (rows : ℕ → Curve (ring_for q)) → AtStart h rows
        → Turn (symbols q.p) (q.k - 1) q.l a rows 1 (record { number = 0; rows = left rows; row = suc q.l; updates = made })
    pub lightest : (rows : ℕ → Curve (ring_for q)) → AtStart h rows → Lightest (ring_for q) (q.k - 1) q.l (left rows) row weight
    pub long : length bytes ≡ curve_bytes (shape_for q)
    pub holds : HoldsCurve (shape_for q) bytes (monic (symbols q.p) row (weight - (q.k - 1) * row) (left (start_for h) row))
    pub top : get_or bytes (q.l * slot (shape_for q) + 0) 0 ≢ 0

module _ {q : Request} {lent : List ℕ} (known : Accepted q.p q.points q.word q.k q.m q.l lent) {made row weight : ℕ}
    {bytes : List ℕ} (z : Worked q made row weight bytes) where
  abbrev start : ℕ → Curve (ring_for q)
  start = start_for q z.h

  abbrev pub curve_for : Curve (ring_for q)
  curve_for = monic (symbols q.p) row (weight - (q.k - 1) * row) (z.left start row)

  Φ : FieldLaws (symbols q.p)
  Φ = symbols-field q.p known.places.size

  -- the lightest row made monic is the smallest curve
  pub worked-smallest : (s : Smallest (ring_for q) (q.k - 1) (Member q) curve_for) × (s.weight ≡ weight)
  worked-smallest =
      let light = z.lightest start (λ i k. refl) in
      let low = known.low in
      let begins = begins-start Φ (places-distinct known.places) (omega arith) known.degree known.heights.order z.through in
      let s = run-smallest Φ begins (turn (z.turn (updates_bound q) (omega arith) start (λ i k. refl)) none) refl light in
      let made : (s : Smallest (ring_for q) (q.k - 1) (Member q) (monic (symbols q.p) row light.lead.degree (z.left start row)))
      × (s.weight ≡ weight) = (s, monic-weight Φ light.lead s.lead) in
      rw (lead-degree light.lead) at made

-- bytes that hold a curve begin with its bytes
curve-bytes : (S : Shape) (Q : Curve (symbols S.p).ring) (xs bytes : List ℕ) → curve_bytes S ≤ length xs → length bytes ≡ curve_bytes S
    → HoldsCurve S xs Q → HoldsCurve S bytes Q
    → take (curve_bytes S) xs ≡ bytes
curve-bytes S Q xs bytes room long a b =
    let l = length-take-le (curve_bytes S) xs room in
    ext_get_or 0 (take (curve_bytes S) xs) bytes (omega arith)
    (λ s k.
    let i = in-curve S {q = s} (omega arith) in
    get_or-take (curve_bytes S) xs s 0 (omega arith)
    ∙ rw i.is (a i.power i.degree i.low i.short ∙ sym (b i.power i.degree i.low i.short)))

module _ {q : Request} (c : Calls q) (ok : c.start.number ≡ 0) where
  begun : Begun q c.lent c.rows c.start
  begun = (c.starts, ok)

  pub calls-accepted : Accepted q.p q.points q.word q.k q.m q.l c.lent
  calls-accepted = start-accepted c.starts.first ok

  pub calls_hand : HandsCurve q c.curve c.finish
  calls_hand = demand_2 q begun c.enough c.turns c.finishes c.curve_room

  -- the turn is not refused, so it goes by the rule
  calls-go : Goes (note_for q 1) c.allowance c.rows c.new c.turn
  calls-go = go (rw (c.starts.note ok) at c.turns) ((demand_3 q (started begun)).accepted c.allowance c.new c.turn c.turns)
    where
      go : HasTurned (note_for q 1) c.allowance c.rows c.new c.turn → c.turn.number ≡ 0
          → Goes (note_for q 1) c.allowance c.rows c.new c.turn
      go t z = two (ℕ_discrete t.entry 0)
        where
          two : Dec (t.entry ≡ 0) → Goes (note_for q 1) c.allowance c.rows c.new c.turn
          two (yes e) = t.goes e
          two (no n) = absurd (n (sym (t.refused n).0 ∙ z))

  module _ {made row weight : ℕ} {bytes : List ℕ} (z : Worked q made row weight bytes) where
    abbrev rows : ℕ → Curve (ring_for q)
    rows = rows_of (shape_for q) c.rows

    fresh : (i : ℕ) → i ≤ q.l → FreshRow q i (start_for q z.h i)
    fresh = let low = calls-accepted.low in
        start-fresh (Φ calls-accepted z) q.m z.through q.k q.l (omega arith) calls-accepted.degree calls-accepted.heights.order

    at-start : AtStart q z.h rows
    at-start i k =
        holds-row (shape_for q) c.rows k (start_for q z.h i) (λ j e. holds i j e k)
        (λ j e x. (fresh i k).height j e (omega arith)) (fresh i k).within
      where
        holds : Holds (shape_for q) c.rows (start_for q z.h)
        holds = let s = c.starts.rows ok in rw (places-only calls-accepted.places s.through z.through) at s.holds

    worked-turn : Turn (symbols q.p) (q.k - 1) q.l c.allowance rows 1
        (record { number = 0; rows = z.left rows; row = suc q.l; updates = made })
    worked-turn = z.turn c.allowance c.enough rows at-start

    outcome : calls-go.outcome ≡ record { number = 0; rows = z.left rows; row = suc q.l; updates = made }
    outcome = rule_determined calls-go.turn worked-turn

    turned : c.turn ≡ record { number = 0; note = note_for q (suc q.l); updates = made }
    turned =
        turned-same (calls-go.number ∙ ap (λ (x : Outcome (symbols q.p)). x.number) outcome)
        (calls-go.next ∙ ap (λ (x : Outcome (symbols q.p)). note_for q x.row) outcome)
        (calls-go.updates ∙ ap (λ (x : Outcome (symbols q.p)). x.updates) outcome)

    pub calls-lightest : Lightest (ring_for q) (q.k - 1) q.l (rows_of (shape_for q) c.new) row weight
    calls-lightest = rw left (z.lightest rows at-start)
      where
        again : (i : ℕ) → i ≤ q.l → FreshRow q i (rows i)
        again i k = rw (at-start i k) (fresh i k)

        sound : Sound (ring_for q) (q.k - 1) (shape_for q).width q.l 1 rows
        sound = fresh_enters (Φ calls-accepted z) again

        left : rows_of (shape_for q) c.new ≡ z.left rows
        left =
            holds-flat (shape_for q) c.new (z.left rows) (rw outcome at calls-go.rows)
            (turn-flat (Φ calls-accepted z) sound worked-turn (rows_of-flat (shape_for q) c.rows))
            (turn-keeps (Φ calls-accepted z) (omega arith) sound worked-turn).sound.light

    abbrev smallest : Smallest (ring_for q) (q.k - 1) (Member q) (curve_for calls-accepted z)
    smallest = (worked-smallest calls-accepted z).0

    same : calls_hand.Q ≡ curve_for calls-accepted z
    same = sym (calls_hand.only (curve_for calls-accepted z) smallest)

    height : HasHeight (symbols q.p).ring (curve_for calls-accepted z) q.l
    height =
        record {
          above = smallest.member.height;
          some = (0, λ e. z.top (z.holds q.l 0 (omega arith) zero-le ∙ rw e (zero-byte q.p)));
        }

    pub calls_give : Gives c made weight q.l bytes
    calls_give =
        record {
          start = started-same ok (c.starts.note ok);
          turn = turned;
          finish =
              finished-same calls_hand.done (calls_hand.weight ∙ weight_unique calls_hand.smallest smallest
              ∙ (worked-smallest calls-accepted z).1) (height_unique _ (rw same at calls_hand.height) height);
          curve = let r = c.curve_room in let l = c.finishes.rest.long in
              curve-bytes (shape_for q) (curve_for calls-accepted z) c.curve bytes (omega arith) z.long (rw same at calls_hand.bytes)
              z.holds;
        }
