use Prim.Native.Nat.{◌≤◌}
use Rattle.rows.specs.Filling.{Power}
use Rattle.rows.proofs.fill.times_power.Given as goal

abbrev pub invariant-loop : goal.invariant-loop
invariant-loop l = (l.counter ≤ l.count) × Power l.p l.f l.counter l.at l.len l.initial.rows l.rows
