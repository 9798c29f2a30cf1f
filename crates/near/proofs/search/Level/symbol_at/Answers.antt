-- `symbol_at` meets its contract: below x^(i j) and above the width nothing stands, and between them the byte is read. Assumes nothing.
use mathlib.Core.Path.{sym}
use Rattle.std.proofs.Common.{rules}
use Rattle.near.proofs.search.Laying.{place-is, slice-low, slice-wide, slice-byte}
use Rattle.near.proofs.search.Level.symbol_at.Goals as goal

pub returns-then-v-lift : goal.returns-then-v-lift
returns-then-v-lift c =
    let s = c.args.self.now in
    sym (slice-low s.laid s.i c.args.v c.args.j (search rules))

pub returns-then-self-e : goal.returns-then-self-e
returns-then-self-e c =
    let s = c.args.self.now in
    sym (slice-wide s.laid s.i c.args.v c.args.j (search rules) (search rules))

pub returns : goal.returns
returns c =
    let s = c.args.self.now in
    rw (c.place-at.ensures, place-is) (sym (slice-byte s.laid s.i c.args.v c.args.j (search rules) c.requires (search rules)))
