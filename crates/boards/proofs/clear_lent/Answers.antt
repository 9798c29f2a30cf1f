-- `clear_lent` meets its contract: zeros where there is room for them.
use native.Mathlib.Omega.{arith}
use Rattle.boards.proofs.LentLaws.{cleared-none}
use Rattle.boards.proofs.clear_lent.Goals as goal

pub returns-then-bytes-size : goal.returns-then-bytes-size
returns-then-bytes-size c = cleared-none c.if-bytes-size.true

pub returns : goal.returns
returns c =
    let enough = c.if-bytes-size.false in
    record { short = λ h. absurd (omega arith); zeroed = λ h. c.clear.ensures }
