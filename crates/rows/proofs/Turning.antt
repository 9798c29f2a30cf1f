-- One turn after another: what a turn leaves may enter the next one, and a turn answered with 0, and then another, are one turn
-- with both allowances.
use mathlib.Core.Path.{◌≡◌, refl, sym, ◌∙◌}
use mathlib.Core.Logic.{inr}
use mathlib.Core.List.{List}
use Prim.Native.Nat.{ℕ, ◌+◌, ◌-◌}
use native.Mathlib.Decide.{ℕ_discrete}
use native.Mathlib.Omega.{arith}
use lib.ListN.{take}
use lib.Seq.{get_or-take, length-take-le}
use Rattle.field.specs.Symbols.{symbols}
use Rattle.field.proofs.SymbolLaws.{symbols-field}
use Rattle.poly.specs.Table.{First}
use Rattle.poly.specs.Lent.{Untouched}
use Rattle.poly.specs.Buffers.{AllBelow}
use Rattle.poly.proofs.TableLaws.{first_determined, none-large}
use Rattle.poly.proofs.BufferLaws.{untouched-then}
use Rattle.curves.proofs.Promises.{Preserved, after}
use Rattle.curves.proofs.Turns.{turn-keeps, turn-onward}
use Rattle.curves.proofs.FlatRows.{turn-flat}
use Rattle.curves.proofs.Cutting.{turn-then}
use Rattle.rows.specs.Bytes.{rows_bytes, rows_of}
use Rattle.rows.specs.Jobs.{shape_of, AsLeft, at_row, turn_table, Goes, HasTurned}
use Rattle.rows.specs.Jobs.{Turned}
use Rattle.rows.specs.Work.{Bytes, Ready}
use Rattle.rows.specs.declared.Note.{Note}
use Rattle.rows.specs.declared.Shape.{Shape}
use Rattle.rows.proofs.Placing.{holds-bytes}
use Rattle.rows.proofs.Notes.{good-note, not_bad}
use Rattle.rows.proofs.HeldRows.{rows_of-flat, holds-flat}
use Rattle.rows.proofs.Going.{turn-ready}

all-below : {S : Shape} {xs : List ℕ} → Bytes S xs → AllBelow S.p (take (rows_bytes S) xs)
all-below {S} {xs} b i h =
    let e = length-take-le (rows_bytes S) xs b.room in
    rw (get_or-take (rows_bytes S) xs i 0 (omega arith)) (b.below i (omega arith))

module _ {note : Note} {xs : List ℕ} (ready : Ready note xs) where
  pub ready-left : AsLeft (shape_of note) note.r xs
  ready-left = record { below = none-large (all-below ready.bytes); sound = ready.sound }

  -- no refusal applies to a turn
  ready-turn : First (turn_table note xs) 0
  ready-turn = let room = ready.bytes.room in inr (ready.good, inr (λ h. omega arith, inr (λ n. n ready-left, refl)))

  module _ {a : ℕ} {ys : List ℕ} {back : Turned} (g : Goes note a xs ys back) (rest : Untouched (rows_bytes (shape_of note)) xs ys) where
    kept : Preserved (symbols note.p) (note.k - 1) (shape_of note).width note.l (rows_of (shape_of note) xs) g.outcome
    kept =
        let good = good-note ready.good in
        turn-keeps (symbols-field note.p good.size) good.last ready.sound g.turn

    -- the bytes are the rows that the rule leaves
    pub goes-rows : rows_of (shape_of note) ys ≡ g.outcome.rows
    goes-rows =
        let good = good-note ready.good in
        holds-flat (shape_of note) ys g.outcome.rows g.rows
        (turn-flat (symbols-field note.p good.size) ready.sound g.turn (rows_of-flat (shape_of note) xs)) kept.sound.light

    -- and may enter the next turn
    pub goes-ready : Ready (at_row note g.outcome.row) ys
    goes-ready =
        let good = good-note ready.good in
        let onward = turn-onward g.turn in
        let first = good.row in
        let room = ready.bytes.room in
        let long = rest.long in
        record {
          good = not_bad (record {
            size = good.size;
            some = good.some;
            most = good.most;
            low = good.low;
            degree = good.degree;
            heights = good.heights;
            row = omega arith;
            last = kept.inside;
          });
          bytes = holds-bytes (shape_of note) ys g.outcome.rows g.rows ready.bytes.fine (omega arith);
          sound = rw goes-rows kept.sound;
        }

module _ {note : Note} {a : ℕ} {xs ys : List ℕ} {back : Turned} (f : HasTurned note a xs ys back) where
  -- a turn that may enter, or is answered with 0, goes by the rule
  pub ready-entry : Ready note xs → f.entry ≡ 0
  ready-entry ready = first_determined (turn_table note xs) f.entry 0 f.first (ready-turn ready)

  pub done-entry : back.number ≡ 0 → f.entry ≡ 0
  done-entry z = go (ℕ_discrete f.entry 0)
    where
      go : Dec (f.entry ≡ 0) → f.entry ≡ 0
      go (yes e) = e
      go (no n) = sym (f.refused n).0 ∙ z

  -- and then with b
  pub turned-then : back.number ≡ 0 → {b : ℕ} {zs : List ℕ} {last : Turned} → HasTurned back.note b ys zs last
      → HasTurned note (a + b) xs zs (record { number = last.number; note = last.note; updates = back.updates + last.updates })
  turned-then z {b} {zs} {last} t = go (rw g.next at t)
    where
      entry : f.entry ≡ 0
      entry = done-entry z

      g : Goes note a xs ys back
      g = f.goes entry

      ready : Ready note xs
      ready = turn-ready f.first entry

      go : HasTurned (at_row note g.outcome.row) b ys zs last
          → HasTurned note (a + b) xs zs (record { number = last.number; note = last.note; updates = back.updates + last.updates })
      go t =
          let next = ready-turn (goes-ready ready g f.rest) in
          let h = t.goes (first_determined (turn_table (at_row note g.outcome.row) ys) t.entry 0 t.first next) in
          let n = g.number in
          let m = h.number in
          let u = g.updates in
          let v = h.updates in
          record {
            entry = 0;
            first = ready-turn ready;
            goes = λ _.
                record {
                  outcome = after (symbols note.p) g.outcome h.outcome;
                  turn = turn-then g.turn (omega arith) (rw (goes-rows ready g f.rest) at h.turn);
                  number = omega arith;
                  next = h.next;
                  updates = omega arith;
                  rows = h.rows;
                };
            rest = untouched-then f.rest t.rest;
            refused = λ n. absurd (n refl);
          }
