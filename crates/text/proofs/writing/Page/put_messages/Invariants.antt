use Rattle.std.proofs.Common.{◌+◌, ◌*◌}
use Rattle.text.specs.Answers.{message_lines}
use Rattle.text.specs.Writing.{Put}
use Rattle.text.proofs.writing.Page.put_messages.Given as goal

abbrev pub invariant-loop-i : goal.invariant-loop-i
invariant-loop-i l = Put l.initial.self (message_lines l.i l.k l.messages) (l.i * (9 + 6 * l.k)) l.self
