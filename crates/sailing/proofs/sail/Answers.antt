use Rattle.std.proofs.Common.{rules}
use Rattle.sailing.proofs.Voyage.{written-encodes, done-ok, sailed, sailed_heard}
use Rattle.sailing.proofs.sail.Goals as goal

pub unwrap-requires-2 : goal.unwrap-requires-2
unwrap-requires-2 c =
    done-ok _
    (written-encodes c.requires.in_range (search rules) c.write.ensures c.all_points-points.ensures (search rules) c.encode.ensures)

pub returns : goal.returns
returns c =
    let way =
    sailed c.requires.in_range (search rules) c.write.ensures c.all_points-points.ensures (search rules) c.encode.ensures c.disturb.ensures
    (search rules) c.hear.ensures in
    record { sailed = way; hears = sailed_heard way }
