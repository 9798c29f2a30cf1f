use mathlib.Core.Path.{◌≡◌}
use lib.ListN.{length, take}
use Rattle.field.specs.Symbols.{symbols_of}
use Rattle.poly.proofs.BufferLaws.{horner}
use Rattle.poly.proofs.value_at.Given as goal

-- what is left are the coefficients below x^i, and the sum is the value of those from x^i on
abbrev pub invariant-loop-c : goal.invariant-loop-c
invariant-loop-c l =
    let left = l.c-iterator.iter.rest.now in
    (left ≡ take (length left) l.coefficients)
    × (l.sum.value ≡ (horner l.p l.a (length l.coefficients) (symbols_of l.p l.coefficients) (length left)).byte)
