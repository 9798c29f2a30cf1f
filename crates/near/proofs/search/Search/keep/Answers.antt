-- `keep` meets its contract: it writes the message exactly where `kept` lists it. Assumes nothing.
use Rattle.near.proofs.search.Keeping.{kept-one, room-one, copied, wrote-one}
use Rattle.near.proofs.search.Search.keep.Goals as goal

pub returns : goal.returns
returns c =
    let s = c.args.self.now in
    let e = kept-one s.plan s.points.now s.word.now c.args.chosen.now c.agreements.ensures c.if-agreements-self.false in
    wrote-one e (copied c.args.messages.now _ c.requires.spelt.long (room-one e c.requires.room) c.copy.ensures)
