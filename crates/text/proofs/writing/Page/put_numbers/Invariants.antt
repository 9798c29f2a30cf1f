use Rattle.std.proofs.Common.{◌*◌}
use Rattle.text.specs.Answers.{joined}
use Rattle.text.specs.Writing.{Put}
use Rattle.text.proofs.writing.Page.put_numbers.Given as goal

abbrev pub invariant-loop-i : goal.invariant-loop-i
invariant-loop-i l = Put l.initial.self (joined l.i l.ns) (6 * l.i) l.self
