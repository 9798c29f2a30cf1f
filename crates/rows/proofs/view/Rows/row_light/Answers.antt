-- `rows::view::Rows::row_light` meets its contract. The loop's invariant: the slots below j are light.
use native.Mathlib.Omega.{arith}
use Rattle.poly.proofs.TableLaws.{decided-false}
use Rattle.rows.proofs.Placing.{slot-end, row-end}
use Rattle.rows.proofs.sound.Soundness.{light-slot}
use Rattle.rows.proofs.view.Rows.row_light.Goals as goal

pub zero_between-requires : goal.zero_between-requires
zero_between-requires c =
    let s = c.args.self.now in
    rw (c.curve_bytes.ensures, c.slot-slot.ensures) (
      omega arith,
      omega (arith, row-end s.shape c.requires, slot-end s.shape c.loop-j-test.true, s.held.room),
    )

pub returns-then-not-zero_between : goal.returns-then-not-zero_between
returns-then-not-zero_between c =
    let s = c.args.self.now in
    decided-false (λ light. c.zero_between.ensures.fails c.if-not-zero_between.true (rw (c.curve_bytes.ensures, c.slot-slot.ensures) (
    light-slot s.held.fine s.bytes.now c.args.i c.loop-j-test.true (λ e. light c.loop-j.j e c.loop-j-test.true)
    )))
