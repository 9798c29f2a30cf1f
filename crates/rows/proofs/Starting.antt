-- The rows filled by the bytes of an interpolation are those of h and e.
use mathlib.Core.List.{List}
use Prim.Native.Nat.{ℕ}
use native.Mathlib.Omega.{arith}
use lib.ListN.{length}
use Rattle.poly.specs.Buffers.{Interpolated}
use Rattle.poly.proofs.Interpolating.{interpolated-h, interpolated-e}
use Rattle.rows.specs.Bytes.{shape}
use Rattle.rows.specs.Jobs.{HoldsStart}
use Rattle.rows.specs.Filling.{Filled}
use Rattle.rows.specs.declared.Shape.{Shape}
use Rattle.rows.proofs.Accepted.{Accepted}

module _ {p : ℕ} {points word : List ℕ} {k m l : ℕ} {rows : List ℕ} (a : Accepted p points word k m l rows) where
  abbrev n : ℕ
  n = length points

  abbrev S : Shape
  S = shape p n k m l

  -- the 64 bytes are h and e
  pub accepted-rows : {work : List ℕ} → Interpolated p points word n work → (after : List ℕ) → Filled S m work after
      → HoldsStart p points word k m l after
  accepted-rows t after f =
      record {
        h = t.h;
        through = t.through;
        holds = rw (interpolated-h a.places t (omega arith), interpolated-e a.places t (omega arith)) at f;
      }
