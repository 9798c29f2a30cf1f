-- `program::answer` meets its contract: it reads, lists and prints.
use Rattle.std.proofs.Common.{rules}
use Rattle.text.proofs.Determined.{write-within}
use Rattle.program.proofs.Answers.{unread-answer, listed-answer}
use Rattle.program.proofs.answer.Goals as goal

pub returns-in_default : goal.returns-in_default
returns-in_default c =
    let w = rw (c.refusal.ensures, c.from.ensures) at c.write.ensures in
    (unread-answer c.in_default.ensures w, write-within w (search rules))

pub returns : goal.returns
returns c = (
  listed-answer c.in-Some.ensures (rw (c.deref.ensures.0, c.deref-2.ensures.0) at c.list-listed.ensures) (rw c.reply_to.ensures at c.write-2.ensures),
  write-within c.write-2.ensures (search rules),
)
