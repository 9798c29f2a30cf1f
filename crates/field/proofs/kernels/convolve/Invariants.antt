use mathlib.Core.Path.{◌≡◌}
use Prim.Native.Nat.{◌≤◌}
use Rattle.field.specs.Symbols.{symbol}
use Rattle.field.specs.Kernels.{convolution}
use Rattle.field.proofs.kernels.convolve.Given as goal

abbrev pub invariant-loop-i : goal.invariant-loop-i
invariant-loop-i g l =
    let s = g.S.RunningSum in
    (s.size l.sum ≡ s.size l.initial.sum)
    × (s.terms l.sum ≤ l.i)
    × (symbol (s.size l.initial.sum) (s.number l.sum) ≡ convolution (s.size l.initial.sum) l.top l.i l.f l.xs)
