-- `text::writing::Page::put_messages` meets its contract. The loop's invariant: the first i lines were put.
use Rattle.std.proofs.Common.{arith, rules}
use Rattle.text.specs.Answers.{message_lines}
use Rattle.text.proofs.Puts.{puts_nothing, puts_bound, next_message}
use Rattle.text.proofs.writing.Page.put_messages.Goals as goal

pub loop-i-init : goal.loop-i-init
unfolding message_lines
loop-i-init c = puts_bound (puts_nothing c.args.self.now (omega arith)) (omega arith)

pub loop-i-preserved : goal.loop-i-preserved
loop-i-preserved c = next_message c.loop-i.i c.args.k c.args.messages.now (search (rules)) c.loop-i.invariant c.put_message.ensures
