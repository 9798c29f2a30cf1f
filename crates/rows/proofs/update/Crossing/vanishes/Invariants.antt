use mathlib.Core.Path.{◌≡◌}
use Prim.Native.Nat.{ℕ, ◌-◌, ◌≤◌, ◌<◌}
use Rattle.field.specs.Symbols.{symbol, symbols}
use Rattle.curves.specs.Turns.{cross}
use Rattle.rows.specs.Bytes.{rows_of}
use Rattle.rows.specs.Work.{leads_ratio}
use Rattle.rows.proofs.update.Crossing.vanishes.Given as goal

abbrev pub invariant-loop-j : goal.invariant-loop-j
invariant-loop-j l =
    (t : ℕ) → t < l.j → (e : ℕ) → e ≤ l.shape.width
    → cross (symbols l.shape.p).ring (l.v - l.w) (rows_of l.shape l.bytes l.r)
    (leads_ratio l.shape l.bytes l.r l.w l.s l.v) (l.w - l.v) (rows_of l.shape l.bytes l.s) t e
    ≡ symbol l.shape.p 0
