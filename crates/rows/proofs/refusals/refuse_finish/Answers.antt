-- `rows::refusals::refuse_finish` meets its contract: a note that passed its test has rows that can be read.
use mathlib.Core.Path.{refl}
use mathlib.Core.Logic.{◌⊎◌, inl, inr, ⊎_elim}
use native.Mathlib.Omega.{arith}
use Rattle.poly.specs.Table.{TooShort}
use Rattle.poly.specs.Buffers.{Decided}
use Rattle.rows.specs.Bytes.{rows_bytes, curve_bytes}
use Rattle.rows.specs.Jobs.{AsLeft, shape_of}
use Rattle.rows.proofs.Notes.{good-note, good-fine}
use Rattle.rows.proofs.refusals.refuse_finish.Goals as goal

pub rows_bytes-requires : goal.rows_bytes-requires
rows_bytes-requires c = rw c.shape-shape.ensures (good-fine (good-note (c.bad_note.ensures.fails c.if-bad_note.false)))

pub curve_bytes-requires : goal.curve_bytes-requires
curve_bytes-requires c = rw c.shape-shape.ensures (good-fine (good-note (c.bad_note.ensures.fails c.if-bad_note.false)))

pub sound-requires : goal.sound-requires
sound-requires c =
    let good = good-note (c.bad_note.ensures.fails c.if-bad_note.false) in
    let room = rw (c.rows_bytes.ensures, c.shape-shape.ensures) at c.if-rows-rows_bytes.false in
    rw (c.shape-shape.ensures, c.from.ensures) (good-fine good, (room, good.last))

pub returns-then-not-sound : goal.returns-then-not-sound
returns-then-not-sound c =
    let room = rw (c.rows_bytes.ensures, c.shape-shape.ensures) at c.if-rows-rows_bytes.false in
    let held = rw (c.curve_bytes.ensures, c.shape-shape.ensures) at c.if-curve-curve_bytes.false in
    let long : TooShort (rows_bytes (shape_of c.args.note)) c.args.rows.now ⊎ TooShort (curve_bytes (shape_of c.args.note)) c.args.curve.now → ⊥ =
    ⊎_elim (λ h. omega arith) (λ h. omega arith) in
    let test : Decided c.sound.result (AsLeft (shape_of c.args.note) c.args.note.r c.args.rows.now) =
    rw (c.shape-shape.ensures, c.from.ensures) at c.sound.ensures in
    inr (
      c.bad_note.ensures.fails c.if-bad_note.false,
      inr (long, inr (λ h. omega (arith, c.if-note.false), inl (test.fails c.if-not-sound.true, refl))),
    )
