use Rattle.std.proofs.Common.{◌≡◌, ◌<◌, ◌++◌, length, drop, add-one, arith, length-append, length-take-le, take-append-drop}
use Rattle.std.proofs.lemmas.List.{get_or_append_left, set-append_left}
use Rattle.sailing.proofs.Disturbing.{Wrong, wrong-none, wrong-more, wrong-disturbed}
use Rattle.sailing.proofs.disturb.Goals as goal

pub loop-symbol-init : goal.loop-symbol-init
loop-symbol-init c = rw take-append-drop (wrong-none c.args.word.now)

pub loop-symbol-preserved : goal.loop-symbol-preserved
loop-symbol-preserved c =
    let here = c.loop-symbol in
    let rest = drop c.args.count c.args.word.now in
    let inside : here.symbol-index < length here.symbol-items = omega arith in
    let other = rw (← get_or_append_left here.symbol-items rest 0 here.symbol-index inside) at c.wrong.ensures in
    let among : here.symbol-index < length (here.symbol-items ++ rest) = rw length-append (omega arith) in
    rw (add-one, ← set-append_left here.symbol-items rest here.symbol-index c.wrong.result inside)
    (wrong-more here.symbol-index c.wrong.result here.invariant among other)

pub returns : goal.returns
returns c =
    let long = length-take-le c.args.count c.args.word.now c.requires in
    let e : c.loop-symbol.symbol-index ≡ c.args.count = omega arith in
    let wrong = rw e at c.loop-symbol.invariant in
    record {
      changed = wrong-disturbed wrong (length c.args.word.now) c.requires;
      symbols = wrong.symbols;
      rest = wrong.rest;
    }
