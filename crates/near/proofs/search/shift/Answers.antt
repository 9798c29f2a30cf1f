-- `shift` meets its contract: the passes down to j are made. Assumes nothing.
use mathlib.Core.Path.{◌≡◌}
use borrow.Author.Rules.{rules}
use Rattle.near.proofs.search.Shifting.{shifting-more, shifted}
use Rattle.near.proofs.search.shift.Goals as goal

pub loop-j-preserved : goal.loop-j-preserved
loop-j-preserved c = shifting-more c.loop-j.invariant c.loop-j-test.true c.raise.ensures

pub returns : goal.returns
returns c =
    let z : c.loop-j.j ≡ 0 = search rules in
    shifted c.requires.laid (rw z at c.loop-j.invariant)
