-- A run of bytes that is copied.
use mathlib.Core.Path.{◌≡◌, sym, ap, ◌∙◌}
use mathlib.Core.Logic.{◌⊎◌, inl, inr}
use mathlib.Core.List.{List}
use Prim.Native.Nat.{ℕ, ◌+◌, ◌-◌, ◌≤◌, ◌<◌}
use native.Mathlib.Decide.{dec_lt}
use native.Mathlib.Omega.{arith}
use lib.ListN.{length, get_or}
use lib.Seq.{length-sets}
use Rattle.std.specs.List.{CopiedTo, SameBelow, SameFrom}
use Rattle.std.proofs.lemmas.List.{ext_get_or}
use Rattle.field.specs.Lists.{tabulate}
use Rattle.field.proofs.Lists.{sets-tabulate-inside, sets-tabulate-outside}
use Rattle.rows.specs.Filling.{copied}

module _ (from to : ℕ) (xs : List ℕ) where
  pub length-copied : (len : ℕ) → length (copied from to len xs) ≡ length xs
  unfolding copied
  length-copied len = length-sets xs to (tabulate len (λ i. get_or xs (from + i) 0))

  pub copied-inside : (len i : ℕ) → to + len ≤ length xs → i < len → get_or (copied from to len xs) (to + i) 0 ≡ get_or xs (from + i) 0
  unfolding copied
  copied-inside len i = sets-tabulate-inside xs to len (λ i. get_or xs (from + i) 0) i 0

  pub copied-outside : (len q : ℕ) → (q < to) ⊎ (to + len ≤ q) → get_or (copied from to len xs) q 0 ≡ get_or xs q 0
  unfolding copied
  copied-outside len q = sets-tabulate-outside xs to len (λ i. get_or xs (from + i) 0) q 0

  -- the bytes that the library's copy leaves
  pub copied-is : (len : ℕ) {ys : List ℕ} → to + len ≤ length xs → length ys ≡ length xs → CopiedTo xs ys from to len
      → SameBelow xs ys to → SameFrom xs ys (to + len) → ys ≡ copied from to len xs
  copied-is len {ys} room long inside below above =
      ext_get_or 0 ys (copied from to len xs) (long ∙ sym (length-copied len)) (λ q k. go q (dec_lt q to) (dec_lt q (to + len)))
    where
      go : (q : ℕ) → Dec (q < to) → Dec (q < to + len) → get_or ys q 0 ≡ get_or (copied from to len xs) q 0
      go q (yes k) _ = below q 0 k ∙ sym (copied-outside len q (inl k))
      go q (no k) (no m) = above q 0 (omega arith) ∙ sym (copied-outside len q (inr (omega arith)))
      go q (no k) (yes m) =
          let e : q ≡ to + (q - to) = omega arith in
          inside q 0 (omega arith) m
          ∙ sym (ap (λ (t : ℕ). get_or (copied from to len xs) t 0) e ∙ copied-inside len (q - to) room (omega arith))
