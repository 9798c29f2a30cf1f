-- `rows::sound::sound` meets its contract. The loop's invariant: the rows below i are as they are to be.
use native.Mathlib.Omega.{arith}
use borrow.Author.Count.{below_more}
use Rattle.poly.proofs.TableLaws.{decided-true, decided-false}
use Rattle.rows.proofs.sound.Soundness.{bytes-below, sound-row, row-sound}
use Rattle.rows.proofs.sound.sound.Goals as goal

pub invariant_of-rows : goal.invariant_of-rows
invariant_of-rows c =
    record {
      held = bytes-below c.requires.0 c.requires.1.0 (rw c.rows_bytes-size.ensures at (c.too_large.ensures.fails c.if-too_large.false));
    }

pub returns-then-not-row_sound : goal.returns-then-not-row_sound
returns-then-not-row_sound c =
    decided-false (λ x. c.row_sound.ensures.fails c.if-not-row_sound.true
    (sound-row x.sound c.loop-i.i c.loop-i-test.true))

pub loop-i-preserved : goal.loop-i-preserved
loop-i-preserved c = below_more _ _ c.loop-i.invariant (c.row_sound.ensures.holds c.if-not-row_sound.false)

pub returns-else-not-row_sound : goal.returns-else-not-row_sound
returns-else-not-row_sound c =
    decided-true (record {
      below = rw c.rows_bytes-size.ensures at (c.too_large.ensures.fails c.if-too_large.false);
      sound = row-sound (λ i h. below_more _ _ c.loop-i.invariant (c.row_sound.ensures.holds c.if-not-row_sound.false) i (omega arith));
    })
