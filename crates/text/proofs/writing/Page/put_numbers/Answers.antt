-- `text::writing::Page::put_numbers` meets its contract. The loop's invariant: the first i numbers were put.
use Rattle.std.proofs.Common.{arith}
use Rattle.text.specs.Answers.{joined}
use Rattle.text.proofs.Puts.{puts_nothing, first_number, next_number}
use Rattle.text.proofs.writing.Page.put_numbers.Goals.{then-i-gt0, else-i-gt0}
use Rattle.text.proofs.writing.Page.put_numbers.Goals as goal

pub loop-i-init : goal.loop-i-init
unfolding joined
loop-i-init c = puts_nothing c.args.self.now (omega arith)

pub loop-i-preserved : goal.loop-i-preserved
loop-i-preserved c = elim c.if-i-gt0.branch [
  | then-i-gt0 w ↦ next_number c.args.ns.now c.loop-i.i w.if-i-gt0.true c.loop-i.invariant w.put_byte.ensures
      (rw (w.self-is, c.from.ensures) at c.put_number.ensures)
  | else-i-gt0 w ↦ first_number c.args.ns.now c.loop-i.i (omega (arith, w.if-i-gt0.false)) c.loop-i.invariant
      (rw (w.self-is, c.from.ensures) at c.put_number.ensures)
]
