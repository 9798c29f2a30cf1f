-- A turn: it keeps what is asked of the rows at entry, it keeps their span, and the current row does not fall.
use mathlib.Core.Path.{◌≡◌}
use mathlib.Core.Logic.{◌⊎◌, inl, inr}
use Prim.Native.Nat.{ℕ, zero, suc, ◌+◌, ◌-◌, ◌≤◌, ◌<◌}
use native.Mathlib.Omega.{arith}
use native.Mathlib.Decide.{ℕ_discrete}
use Rattle.field.specs.Field.{Field, FieldLaws}
use Rattle.curves.specs.Curves.{Curve, Zero, Lead}
use Rattle.curves.specs.Turns.{Due, updated, Outcome, stops, counted, Turn, finished, rises, pauses, updates, halts}
use Rattle.curves.specs.Entry.{Sound}
use Rattle.curves.proofs.Promises.{Preserved}
use Rattle.curves.proofs.Leads.{ZeroOrLeads, lead-nonzero, lead-within, lead?}
use Rattle.curves.proofs.Spans.{same_refl, same_trans}
use Rattle.curves.proofs.Updates.{update_led, update-same}
use Rattle.curves.proofs.Entry.{sound-rises, sound-below, sound-update}

module _ {F : Field} (Φ : FieldLaws F) {u W l : ℕ} where
  kept_still : (number : ℕ) {rows : ℕ → Curve F.ring} {r : ℕ} → r ≤ suc l → Sound F.ring u W l r rows
      → Preserved F u W l rows (stops F number rows r)
  kept_still number {rows = rows} h g = record { inside = h; sound = g; same = same_refl F.ring (suc l) rows }

  pub turn-keeps : {a : ℕ} {rows : ℕ → Curve F.ring} {r : ℕ} {o : Outcome F} → r ≤ suc l → Sound F.ring u W l r rows → Turn F u l a rows r o
      → Preserved F u W l rows o
  turn-keeps h g (finished k) = kept_still 0 h g
  turn-keeps h g (rises w k x t) = turn-keeps (omega arith) (sound-rises g (w, x)) t
  turn-keeps h g (pauses w s k x n) = kept_still 0 h g
  turn-keeps h g (updates {rows = rows} {r = r} {o = o} w s v d n t) =
      let b = sound-below g d in
      let i = d.inside in
      let k = turn-keeps h (sound-update Φ g d n) t in
      let e = update-same Φ d (suc l) (omega arith) (omega arith) in
      record { inside = k.inside; sound = k.sound; same = same_trans F.ring (suc l) rows (updated F d) o.rows e k.same }
  turn-keeps h g (halts w s v d n) = kept_still 11 h g

-- where the current row comes to rest, from row r on
record Rest (F : Field) (u W l : ℕ) (rows : ℕ → Curve F.ring) (r : ℕ) : Type 0 where
  row : ℕ
  inside : row ≤ suc l
  sound : Sound F.ring u W l row rows
  due : (l < row) ⊎ ((w : ℕ) × (s : ℕ) × (v : ℕ) × Due F.ring u l row rows w s v)
  back : (a : ℕ) (o : Outcome F) → Turn F u l a rows row o → Turn F u l a rows r o

module _ {F : Field} (Φ : FieldLaws F) {u W l : ℕ} where
  rest : (n r : ℕ) (rows : ℕ → Curve F.ring) → r + n ≡ suc l → Sound F.ring u W l r rows → Rest F u W l rows r
  rest zero r rows e g = record { row = r; inside = omega arith; sound = g; due = inl (omega arith); back = λ a o t. t }
  rest (suc n) r rows e g =
      go (lead? F u (rows r) (suc r) (suc W) (g.low r (omega arith) (omega arith)) (g.light r (omega arith))) (rest n (suc r) rows (omega arith))
    where
      go : ZeroOrLeads F.ring u (rows r) → (Sound F.ring u W l (suc r) rows → Rest F u W l rows (suc r)) → Rest F u W l rows r
      go (inl z) more = absurd (g.nonzero r (omega arith) z)
      go (inr (w, s, x)) more = two (ℕ_discrete s r)
        where
          two : Dec (s ≡ r) → Rest F u W l rows r
          two (yes q) =
              let y : Lead F.ring u w r (rows r) = rw q at x in
              let t = more (sound-rises g (w, y)) in
              record {
                row = t.row;
                inside = t.inside;
                sound = t.sound;
                due = t.due;
                back = λ a o k. rises {r = r} w (omega arith) y (t.back a o k);
              }
          two (no q) =
              let k = lead-within x (suc r) (g.low r (omega arith) (omega arith)) in
              let y = g.own s (omega arith) (omega arith) in
              record {
                row = r;
                inside = omega arith;
                sound = g;
                due = inr (w, s, y.0, record { inside = omega arith; lead = x; other = q; below = y.1 });
                back = λ a o t. t;
              }

  -- rows that may enter a turn have an outcome
  pub turn_exists : (a r : ℕ) (rows : ℕ → Curve F.ring) → r ≤ suc l → Sound F.ring u W l r rows → (o : Outcome F) × Turn F u l a rows r o
  turn_exists zero r rows h g = let t = rest (suc l - r) r rows (omega arith) g in go t t.due
    where
      go : (t : Rest F u W l rows r) → (l < t.row) ⊎ ((w : ℕ) × (s : ℕ) × (v : ℕ) × Due F.ring u l t.row rows w s v)
          → (o : Outcome F) × Turn F u l zero rows r o
      go t (inl k) = (stops F 0 rows t.row, t.back zero _ (finished k))
      go t (inr (w, s, v, d)) = (stops F 0 rows t.row, t.back zero _ (pauses w s d.inside d.lead d.other))
  turn_exists (suc a) r rows h g = let t = rest (suc l - r) r rows (omega arith) g in go t t.due (turn_exists a)
    where
      go : (t : Rest F u W l rows r) → (l < t.row) ⊎ ((w : ℕ) × (s : ℕ) × (v : ℕ) × Due F.ring u l t.row rows w s v)
          → ((r : ℕ) (rows : ℕ → Curve F.ring) → r ≤ suc l → Sound F.ring u W l r rows → (o : Outcome F) × Turn F u l a rows r o)
          → (o : Outcome F) × Turn F u l (suc a) rows r o
      go t (inl k) more = (stops F 0 rows t.row, t.back (suc a) _ (finished k))
      go t (inr (w, s, v, d)) more =
          two (update_led Φ d (suc t.row) (t.sound.low t.row d.inside (omega arith)) (let k = sound-below t.sound d in
          let i = d.inside in t.sound.low s (omega arith) (omega arith)))
        where
          new : ℕ → Curve F.ring
          new = updated F d

          made : (Zero F.ring (new t.row) → ⊥) → (o : Outcome F) × Turn F u l (suc a) rows r o
          made n = let m = more t.row new t.inside (sound-update Φ t.sound d n) in
              (counted F m.0, t.back (suc a) _ (updates w s v d n m.1))

          two : ZeroOrLeads F.ring u (new t.row) → (o : Outcome F) × Turn F u l (suc a) rows r o
          two (inl z) = (stops F 11 rows t.row, t.back (suc a) _ (halts w s v d z))
          two (inr x) = made (lead-nonzero x.2)

pub turn-onward : {F : Field} {u l a r : ℕ} {rows : ℕ → Curve F.ring} {o : Outcome F} → Turn F u l a rows r o → r ≤ o.row
turn-onward (finished h) = omega arith
turn-onward (rises w h p t) = let k = turn-onward t in omega arith
turn-onward (pauses w s h p n) = omega arith
turn-onward (updates w s v d n t) = turn-onward t
turn-onward (halts w s v d z) = omega arith
