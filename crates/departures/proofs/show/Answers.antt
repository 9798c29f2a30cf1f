-- `show` meets its contract: the text stands at the front of the lent bytes.
use mathlib.Core.Path.{refl}
use Rattle.departures.proofs.Outcomes.{put-passed, puts-done}
use Rattle.departures.proofs.show.Goals as goal

pub returns : goal.returns
returns c =
    let done = c.in_ok-refuse_put.ensures in puts-done done (put-passed c.args.text.now done refl).1 c.put_clock.ensures
