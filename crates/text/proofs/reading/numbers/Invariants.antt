use Rattle.text.proofs.Items.{SoFar}
use Rattle.text.proofs.reading.numbers.Given as goal

abbrev pub invariant-loop-part : goal.invariant-loop-part
invariant-loop-part l = SoFar l.text l.items l.part-iterator.done l.part-iterator.rest.now
