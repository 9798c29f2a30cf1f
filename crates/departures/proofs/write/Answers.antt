-- `write` meets its contract: the six symbols stand at the front of the lent bytes.
use mathlib.Core.Path.{refl}
use Rattle.departures.proofs.Outcomes.{put-passed, puts-done}
use Rattle.departures.proofs.write.Goals as goal

pub returns : goal.returns
returns c =
    let done = c.in_ok-refuse_put.ensures in puts-done done (put-passed c.args.message.now done refl).1 c.put_symbols.ensures
