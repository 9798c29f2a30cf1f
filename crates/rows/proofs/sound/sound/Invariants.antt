use Prim.Native.Nat.{ℕ, ◌<◌}
use Rattle.field.specs.Symbols.{symbols}
use Rattle.rows.specs.Bytes.{rows_of}
use Rattle.rows.specs.Work.{SoundRow}
use Rattle.rows.proofs.sound.sound.Given as goal

abbrev pub invariant-loop-i : goal.invariant-loop-i
invariant-loop-i l =
    let shape = l.fn.shape in
    (k : ℕ) → k < l.i → SoundRow (symbols shape.p).ring shape.u shape.width l.r k (rows_of shape l.fn.rows k)
