-- A turn under way: with `left` of the allowance left, what a turn from here ends in is what the whole turn ends in, with the updates
-- made so far counted.
use mathlib.Core.Path.{◌≡◌, refl, sym, ◌∙◌}
use mathlib.Core.Logic.{◌≢◌}
use mathlib.Core.List.{List}
use Prim.Native.Nat.{ℕ, suc, ◌+◌, ◌-◌, ◌≤◌, ◌<◌}
use native.Mathlib.Nat.{add-zero}
use native.Mathlib.Omega.{arith}
use borrow.Author.Rules.{rules}
use Rattle.field.specs.Field.{Ring, Field, FieldLaws}
use Rattle.field.specs.Symbols.{symbols}
use Rattle.field.proofs.SymbolLaws.{symbols-field}
use Rattle.poly.specs.Table.{First}
use Rattle.poly.specs.Lent.{Untouched}
use Rattle.poly.proofs.TableLaws.{first-passed}
use Rattle.poly.proofs.BufferLaws.{untouched-then}
use Rattle.curves.specs.Curves.{Curve, Zero, Lead}
use Rattle.curves.specs.Turns.{Outcome, stops, counted, Turn, finished, rises, pauses, updates, halts}
use Rattle.curves.specs.Entry.{Sound}
use Rattle.curves.proofs.Leads.{lead-within}
use Rattle.curves.proofs.Entry.{sound-rises, sound-below, sound-update}
use Rattle.curves.proofs.FlatRows.{update-flat}
use Rattle.rows.specs.Bytes.{rows_bytes, rows_of, Holds}
use Rattle.rows.specs.Jobs.{shape_of, at_row, turn_table}
use Rattle.rows.specs.Jobs.{Turned}
use Rattle.rows.specs.Work.{Bytes, Crosses, updated_rows, Ready, Went}
use Rattle.rows.specs.declared.Note.{Note}
use Rattle.rows.specs.declared.Shape.{Shape}
use Rattle.rows.proofs.Notes.{good-note, good-fine}
use Rattle.rows.proofs.sound.Soundness.{bytes-below, as-left_stable}
use Rattle.rows.proofs.Placing.{holds-bytes, holds-own, light-row}
use Rattle.rows.proofs.HeldRows.{rows_of-flat, holds-flat}
use Rattle.rows.proofs.leading.Finding.{lead-own}
use Rattle.rows.proofs.update.CrossedRows.{due, rule-update}

-- n updates made before
abbrev pub more : {F : Field} → ℕ → Outcome F → Outcome F
more n o = record { number = o.number; rows = o.rows; row = o.row; updates = n + o.updates }

pub record Going (S : Shape) (start allowance : ℕ) (before xs : List ℕ) (r left : ℕ) : Type 0 where
  pub bytes : Bytes S xs
  pub inside : r ≤ suc S.l
  pub sound : Sound (symbols S.p).ring S.u S.width S.l r (rows_of S xs)
  pub within : left ≤ allowance
  pub rest : Untouched (rows_bytes S) before xs
  pub back : (o : Outcome (symbols S.p)) → Turn (symbols S.p) S.u S.l left (rows_of S xs) r o
      → Turn (symbols S.p) S.u S.l allowance (rows_of S before) start (more (allowance - left) o)

-- what a turn relies on where no refusal applies
pub turn-ready : {note : Note} {xs : List ℕ} {n : ℕ} → First (turn_table note xs) n → n ≡ 0 → Ready note xs
turn-ready {note} {xs} first z =
    let (bad, (short, (unstable, _))) = first-passed (turn_table note xs) (search rules) first z in
    let left = as-left_stable unstable in
    record { good = bad; bytes = bytes-below (good-fine (good-note bad)) (omega arith) left.below; sound = left.sound }

pub going-begins : {S : Shape} {note : Note} {xs : List ℕ} (allowance : ℕ) → S ≡ shape_of note → Ready note xs
    → Going S note.r allowance xs xs note.r allowance
going-begins {S} {note} {xs} allowance is ready = rw is begun
  where
    begun : Going (shape_of note) note.r allowance xs xs note.r allowance
    begun =
        record {
          bytes = ready.bytes;
          inside = (good-note ready.good).last;
          sound = ready.sound;
          within = omega arith;
          rest = record { long = refl; same = λ q k. refl };
          back = λ o t. let e : allowance - allowance + o.updates ≡ o.updates = omega arith in rw e t;
        }

module _ {S : Shape} {start allowance : ℕ} {before xs : List ℕ} {r left : ℕ} (g : Going S start allowance before xs r left) where
  abbrev F : Field
  F = symbols S.p

  abbrev R : Ring
  R = F.ring

  abbrev rows : ℕ → Curve R
  rows = rows_of S xs

  Φ : FieldLaws (symbols S.p)
  Φ = symbols-field S.p g.bytes.fine.size

  pub going-rises : r ≤ S.l → {w : ℕ} → Lead R S.u w r (rows r) → Going S start allowance before xs (suc r) left
  going-rises h {w} lead =
      record {
        bytes = g.bytes;
        inside = omega arith;
        sound = sound-rises g.sound (w, lead);
        within = g.within;
        rest = g.rest;
        back = λ o t. g.back o (rises {r = r} w h lead t);
      }

  -- the row below that is to be taken off
  pub going-below : r ≤ S.l → {w s : ℕ} → Lead R S.u w s (rows r) → s ≢ r → s < r
  going-below h lead n = let k = lead-within lead (suc r) (g.sound.low r h (omega arith)) in omega arith

  pub going_crosses : r ≤ S.l → {w s v t : ℕ} → Lead R S.u w s (rows r) → s ≢ r → Lead R S.u v t (rows s) → Crosses S xs r w s v
  going_crosses h {s = s} lead n other =
      let b = going-below h lead n in
      let k : s ≤ S.l = omega arith in
      record {
        bytes = g.bytes;
        current = h;
        other = k;
        apart = n;
        light_r = light-row g.bytes h (g.sound.light r h);
        light_s = light-row g.bytes k (g.sound.light s k);
        lead_r = lead;
        lead_s = lead-own other (g.sound.own s k b);
      }

module _ {S : Shape} {start allowance : ℕ} {before xs : List ℕ} {r left w s v : ℕ} (g : Going S start allowance before xs r left)
    (x : Crosses S xs r w s v) where
  abbrev new : ℕ → Curve (symbols S.p).ring
  new = updated_rows S xs r w s v

  pub going-updates : (ys : List ℕ) → 0 < left → (Zero (symbols S.p).ring (new r) → ⊥) → Holds S ys new → Untouched (rows_bytes S) xs ys
      → Going S start allowance before ys r (left - 1)
  going-updates ys h n holds u =
      let k = g.within in
      let room = x.bytes.room in
      let long = u.long in
      record {
        bytes = holds-bytes S ys new holds x.bytes.fine (omega arith);
        inside = g.inside;
        sound = rw is sound;
        within = omega arith;
        rest = untouched-then g.rest u;
        back = back;
      }
    where
      sound : Sound (symbols S.p).ring S.u S.width S.l r new
      sound = rw (rule-update x) at (sound-update (Φ g) g.sound (due x) (rw (← rule-update x) at n))

      is : rows_of S ys ≡ new
      is =
          holds-flat S ys new holds (rw (rule-update x) at (update-flat (Φ g) (due x) (sound-below g.sound (due x)) (rows_of-flat S xs)))
          sound.light

      back : (o : Outcome (symbols S.p)) → Turn (symbols S.p) S.u S.l (left - 1) (rows_of S ys) r o
          → Turn (symbols S.p) S.u S.l allowance (rows_of S before) start (more (allowance - (left - 1)) o)
      back o t =
          let k = g.within in
          let a : left ≡ suc (left - 1) = omega arith in
          let m : allowance - (left - 1) + o.updates ≡ allowance - left + suc o.updates = omega arith in
          rw m (g.back (counted (symbols S.p) o)
          (rw a (updates {r = r} w s v (due x) (rw (← rule-update x) at n) (rw (is, ← rule-update x) at t))))

-- the three ends
module _ {S : Shape} {note : Note} {allowance : ℕ} {before xs : List ℕ} {r left : ℕ} (is : S ≡ shape_of note)
    (g : Going S note.r allowance before xs r left)
    {back : Turned} (next : back.note ≡ at_row note r) (made : back.updates ≡ allowance - left) where
  ends : (number : ℕ) → back.number ≡ number → Turn (symbols S.p) S.u S.l left (rows_of S xs) r
      (stops (symbols S.p) number (rows_of S xs) r) → Went note allowance before xs back
  ends number e t = go (rw is at g) (rw is at t)
    where
      go : Going (shape_of note) note.r allowance before xs r left
          → Turn (symbols note.p) (note.k - 1) note.l left (rows_of (shape_of note) xs) r
          (stops (symbols note.p) number (rows_of (shape_of note) xs) r) → Went note allowance before xs back
      go g t =
          record {
            goes = record {
              outcome = more (allowance - left) (stops (symbols note.p) number (rows_of (shape_of note) xs) r);
              turn = g.back _ t;
              number = e;
              next = next;
              updates = made ∙ sym (add-zero (allowance - left));
              rows = holds-own g.bytes;
            };
            rest = g.rest;
          }

  pub ends-finished : S.l < r → back.number ≡ 0 → Went note allowance before xs back
  ends-finished h e = ends 0 e (finished h)

  pub ends-paused : r ≤ S.l → {w s : ℕ} → Lead (symbols S.p).ring S.u w s (rows_of S xs r) → s ≢ r → left ≡ 0 → back.number ≡ 0
      → Went note allowance before xs back
  ends-paused h {w} {s} lead n z e = ends 0 e (rw z (pauses {r = r} w s h lead n))

  pub ends_halted : {w s v : ℕ} (x : Crosses S xs r w s v) → 0 < left
      → Zero (symbols S.p).ring (updated_rows S xs r w s v r) → back.number ≡ 11 → Went note allowance before xs back
  ends_halted {w} {s} {v} x h z e =
      let a : left ≡ suc (left - 1) = omega arith in
      ends 11 e (rw a (halts {r = r} w s v (due x) (rw (← rule-update x) at z)))
