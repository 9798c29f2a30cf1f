-- What finish relies on where no refusal applies.
use mathlib.Core.Path.{◌≡◌}
use mathlib.Core.Logic.{inl, inr}
use mathlib.Core.List.{List}
use Prim.Native.Nat.{ℕ, suc, ◌≤◌, ◌<◌}
use native.Mathlib.Omega.{arith}
use lib.ListN.{length}
use borrow.Author.Rules.{rules}
use Rattle.poly.specs.Table.{First}
use Rattle.poly.proofs.TableLaws.{first-passed}
use Rattle.rows.specs.Bytes.{curve_bytes, rows_bytes}
use Rattle.rows.specs.Jobs.{shape_of, finish_table}
use Rattle.rows.specs.Work.{Whole}
use Rattle.rows.specs.declared.Note.{Note}
use Rattle.rows.proofs.Notes.{GoodNote, good-note, good-fine}
use Rattle.rows.proofs.sound.Soundness.{bytes-below, as-left_stable}

-- what finish relies on where no refusal applies
pub record Finishes (note : Note) (rows curve : List ℕ) : Type 0 where
  pub good : GoodNote note
  pub whole : Whole (shape_of note) rows
  pub room : curve_bytes (shape_of note) ≤ length curve

pub finishes : {note : Note} {rows curve : List ℕ} {n : ℕ} → First (finish_table note rows curve) n → n ≡ 0 → Finishes note rows curve
finishes {note} {rows} {curve} first z =
    let (bad, (short, (early, (unstable, _)))) = first-passed (finish_table note rows curve) (search rules) first z in
    let left = as-left_stable unstable in
    let good = good-note bad in
    let long : length rows < rows_bytes (shape_of note) → ⊥ = λ h. short (inl h) in
    let held : length curve < curve_bytes (shape_of note) → ⊥ = λ h. short (inr h) in
    let last : note.r ≡ suc note.l = let a = good.last in omega arith in
    record {
      good = good;
      whole = record { bytes = bytes-below (good-fine good) (omega arith) left.below; sound = rw last at left.sound };
      room = omega arith;
    }
