use Rattle.std.proofs.Common.{◌++◌, drop}
use Rattle.sailing.proofs.Disturbing.{Wrong}
use Rattle.sailing.proofs.disturb.Given as goal

-- behind the symbols that the loop goes over stand the others
abbrev pub invariant-loop-symbol : goal.invariant-loop-symbol
invariant-loop-symbol l = Wrong l.symbol-index l.fn.word (l.symbol-items ++ drop l.count l.fn.word)
