use mathlib.Core.Path.{◌≡◌}
use Prim.Native.Nat.{ℕ, ◌<◌}
use Rattle.field.specs.Operations.{minus_bytes, times_bytes}
use Rattle.rows.specs.Work.{delayed_byte}
use Rattle.rows.proofs.update.slot_vanishes.Given as goal

abbrev pub invariant-loop-e : goal.invariant-loop-e
invariant-loop-e l =
    (i : ℕ) → i < l.e
    → minus_bytes l.fn.shape.p (delayed_byte l.rows l.a l.up i) (times_bytes l.fn.shape.p l.c.value (delayed_byte l.rows l.b l.down i)) ≡ 0
