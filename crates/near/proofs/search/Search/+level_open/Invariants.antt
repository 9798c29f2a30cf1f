-- `level` and `open` of `near::search::Search` meet their contracts. The loop's invariant: the symbols below c are tried. What is left to
-- choose falls from open to level, and level is above open with as much left.
use mathlib.Core.Path.{◌≡◌}
use Prim.Native.Nat.{suc, ◌+◌, ◌-◌}
use Rattle.field.specs.Symbols.{symbols}
use Rattle.near.specs.Search.{lowest}
use Rattle.near.specs.Work.{curve_of}
use Rattle.near.proofs.search.Levels.{Going}
use Rattle.near.proofs.search.Search.+level_open.Given as goal

abbrev pub decreases-level : goal.decreases-level
decreases-level l = l.left + l.left + 1

abbrev pub decreases-open : goal.decreases-open
decreases-open l = l.left + l.left

abbrev pub invariant-level-loop-c : goal.invariant-level-loop-c
invariant-level-loop-c l =
    let plan = l.self.plan in
    Going plan l.self.points.now l.self.word.now l.initial.curve l.initial.chosen l.initial.messages l.left l.count
    l.curve l.chosen l.messages l.found l.c
    × (l.low ≡ lowest (symbols plan.shape.p) (suc plan.shape.l) (suc plan.shape.width) (plan.k - l.left)
    (curve_of plan.shape l.initial.curve))
