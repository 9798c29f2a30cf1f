-- What stands where after a row kernel.
use mathlib.Core.Path.{◌≡◌, refl, ap, ◌∙◌}
use mathlib.Core.List.{List}
use mathlib.Core.Logic.{◌⊎◌, inl, inr, ⊎_elim}
use Prim.Native.Nat.{ℕ, zero, suc, ◌+◌, ◌-◌, ◌<◌, ◌≤◌}
use native.Mathlib.Numerals.{add-one}
use native.Mathlib.Decide.{dec_lt}
use native.Mathlib.Omega.{arith}
use lib.ListN.{length, get_or, set, take, drop}
use lib.Seq.{length-sets, sets, take-set-lt}
use borrow.Rule.Slice.PartMut.{put_mid}
use Rattle.std.proofs.lemmas.List.{length-take, length-drop, get_or-take, get_or-drop, drop-set-add, drop-drop, append_assoc}
use Rattle.std.proofs.lemmas.List.Edits.{sets-eq}
use Rattle.std.proofs.lemmas.Slice.{between-put_mid}
use Rattle.field.specs.Lists.{tabulate}
use Rattle.field.specs.Symbols.{symbol, sum_of, product_of, negative_of}
use Rattle.field.specs.Operations.{minus_bytes, times_bytes, Listed}
use Rattle.field.specs.Kernels.{Subtracts, Scales, subtracted, scaled}
use Rattle.field.proofs.Lists.{length-tabulate, sets-tabulate-zero, sets-tabulate-suc, sets-tabulate-inside, sets-tabulate-outside}
use Rattle.field.proofs.OperationLaws.{symbol-minus_bytes, symbol-times_bytes, minus_bytes-below, times_bytes-below}

module _ (p c to from : ℕ) (xs : List ℕ) where
  -- the byte that comes to stand at `to + i`
  abbrev less : ℕ → ℕ
  less i = minus_bytes p (get_or xs (to + i) 0) (times_bytes p c (get_or xs (from + i) 0))

  pub length-subtracted : (len : ℕ) → length (subtracted p c to from len xs) ≡ length xs
  unfolding subtracted
  length-subtracted len = length-sets xs to (tabulate len less)

  pub subtracted-zero : subtracted p c to from zero xs ≡ xs
  unfolding subtracted
  subtracted-zero = sets-tabulate-zero xs to less

  pub subtracted-suc : (len : ℕ) → subtracted p c to from (suc len) xs ≡ set (subtracted p c to from len xs) (to + len) (less len)
  unfolding subtracted
  subtracted-suc len = sets-tabulate-suc xs to len less

  pub subtracted-outside : (len j : ℕ) → (j < to) ⊎ (to + len ≤ j) → get_or (subtracted p c to from len xs) j 0 ≡ get_or xs j 0
  unfolding subtracted
  subtracted-outside len j = sets-tabulate-outside xs to len less j 0

  module _ (len i : ℕ) (h : to + len ≤ length xs) (k : i < len) where
    pub subtracted-inside : get_or (subtracted p c to from len xs) (to + i) 0 ≡ less i
    unfolding subtracted
    subtracted-inside = sets-tabulate-inside xs to len less i 0 h k

    pub subtracted-below : Listed p → get_or (subtracted p c to from len xs) (to + i) 0 < p
    subtracted-below l = rw subtracted-inside (minus_bytes-below l _ _)

    -- in terms of the field
    pub subtracted-symbol : symbol p (get_or (subtracted p c to from len xs) (to + i) 0)
        ≡ sum_of p (symbol p (get_or xs (to + i) 0)) (negative_of p (product_of p (symbol p c) (symbol p (get_or xs (from + i) 0))))
    subtracted-symbol = rw (subtracted-inside, symbol-minus_bytes, symbol-times_bytes)

-- in the loop: i symbols are done, and the next is read where it was
module _ {p c to from len : ℕ} {xs ys : List ℕ} (a : Subtracts p c to from len xs) (i : ℕ) (h : i < len) (e : ys ≡ subtracted p c to from i xs) where
  pub target-kept : get_or ys (to + i) 0 ≡ get_or xs (to + i) 0
  target-kept = rw e (subtracted-outside p c to from xs i (to + i) (inr (omega arith)))

  pub source-kept : get_or ys (from + i) 0 ≡ get_or xs (from + i) 0
  source-kept = rw e (subtracted-outside p c to from xs i (from + i) (⊎_elim (λ l. inr (omega arith)) (λ l. inl (omega arith)) a.apart))

  pub target-below : get_or ys (to + i) 0 < p
  target-below = rw target-kept (a.target.below i h)

  pub source-below : get_or ys (from + i) 0 < p
  source-below = rw source-kept (a.source.below i h)

  pub subtracted-more : {v : ℕ} → v ≡ minus_bytes p (get_or ys (to + i) 0) (times_bytes p c (get_or ys (from + i) 0))
      → set ys (to + i) v ≡ subtracted p c to from (i + 1) xs
  subtracted-more {v} d =
      let w : v ≡ less p c to from xs i = d ∙ rw (target-kept, source-kept) in
      rw (add-one, subtracted-suc p c to from xs i, ← e, ← w)

module _ (p c at : ℕ) (xs : List ℕ) where
  abbrev times : ℕ → ℕ
  times i = times_bytes p c (get_or xs (at + i) 0)

  pub length-scaled : (len : ℕ) → length (scaled p c at len xs) ≡ length xs
  unfolding scaled
  length-scaled len = length-sets xs at (tabulate len times)

  pub scaled-zero : scaled p c at zero xs ≡ xs
  unfolding scaled
  scaled-zero = sets-tabulate-zero xs at times

  pub scaled-suc : (len : ℕ) → scaled p c at (suc len) xs ≡ set (scaled p c at len xs) (at + len) (times len)
  unfolding scaled
  scaled-suc len = sets-tabulate-suc xs at len times

  pub scaled-outside : (len j : ℕ) → (j < at) ⊎ (at + len ≤ j) → get_or (scaled p c at len xs) j 0 ≡ get_or xs j 0
  unfolding scaled
  scaled-outside len j = sets-tabulate-outside xs at len times j 0

  module _ (len i : ℕ) (h : at + len ≤ length xs) (k : i < len) where
    pub scaled-inside : get_or (scaled p c at len xs) (at + i) 0 ≡ times i
    unfolding scaled
    scaled-inside = sets-tabulate-inside xs at len times i 0 h k

    pub scaled-below : Listed p → get_or (scaled p c at len xs) (at + i) 0 < p
    scaled-below l = rw scaled-inside (times_bytes-below l _ _)

    -- in terms of the field
    pub scaled-symbol : symbol p (get_or (scaled p c at len xs) (at + i) 0) ≡ product_of p (symbol p c) (symbol p (get_or xs (at + i) 0))
    scaled-symbol = rw (scaled-inside, symbol-times_bytes)

module _ {p c at len : ℕ} {xs ys : List ℕ} (a : Scales p c at len xs) (i : ℕ) (h : i < len) (e : ys ≡ scaled p c at i xs) where
  pub scaled-kept : get_or ys (at + i) 0 ≡ get_or xs (at + i) 0
  scaled-kept = rw e (scaled-outside p c at xs i (at + i) (inr (omega arith)))

  pub scaled-next-below : get_or ys (at + i) 0 < p
  scaled-next-below = rw scaled-kept (a.target.below i h)

  pub scaled-more : {v : ℕ} → v ≡ times_bytes p c (get_or ys (at + i) 0) → set ys (at + i) v ≡ scaled p c at (i + 1) xs
  scaled-more {v} d =
      let w : v ≡ times p c at xs i = d ∙ rw scaled-kept in
      rw (add-one, scaled-suc p c at xs i, ← e, ← w)

-- a loop over the region alone, the slice from `at` to `at + len`: its entries after i steps, and the whole once they are back
module _ {p c at len : ℕ} {xs : List ℕ} (a : Scales p c at len xs) where
  abbrev size : ℕ
  size = at + len - at

  size-len : size ≡ len
  size-len = omega arith

  abbrev pub part : ℕ → List ℕ
  part i = take size (drop at (scaled p c at i xs))

  pub part-zero : take size (drop at xs) ≡ part zero
  part-zero = rw (scaled-zero p c at xs)

  pub part-length : length (take size (drop at xs)) ≡ len
  part-length = omega (arith, a.target.within, length-take size (drop at xs), length-drop at xs)

  module _ (i : ℕ) (h : i < length (take size (drop at xs))) where
    inside : i < len
    inside = omega (arith, h, part-length)

    part-entry : get_or (part i) i 0 ≡ get_or (scaled p c at i xs) (at + i) 0
    part-entry = get_or-take size (drop at (scaled p c at i xs)) i 0 (omega (arith, inside)) ∙ get_or-drop at (scaled p c at i xs) i 0

    pub part-below : get_or (part i) i 0 < p
    part-below = rw part-entry (scaled-next-below a i inside refl)

    pub part-more : {v : ℕ} → v ≡ times_bytes p c (get_or (part i) i 0) → set (part i) i v ≡ part (i + 1)
    part-more {v} d =
        rw (
          ← take-set-lt size (drop at (scaled p c at i xs)) i v (omega (arith, inside)),
          ← drop-set-add at (scaled p c at i xs) i v,
          scaled-more a i inside refl (d ∙ ap (times_bytes p c) part-entry),
        )

  pub part-back : put_mid at size xs (part len) ≡ scaled p c at len xs
  unfolding scaled
  part-back =
      let new = tabulate len (times p c at xs) in
      let count = length-tabulate len (times p c at xs) in
      let within = a.target.within in
      let room : at + length new ≤ length xs = omega (arith, within, count) in
      let whole : put_mid at size xs new ≡ sets xs at new =
      rw (size-len, sets-eq new xs at room, count, append_assoc (take at xs) new (drop (at + len) xs), drop-drop) in
      let inner : take size (drop at (sets xs at new)) ≡ new =
      rw (← whole) (between-put_mid at size xs new (at + len) (omega (arith, within)) (omega (arith, count))) in
      rw inner whole

-- bytes below p stay below p, if those in a region come to be so and the others are kept
below-keeps : {p : ℕ} (at len : ℕ) (xs ys : List ℕ) → ((q : ℕ) → (q < at) ⊎ (at + len ≤ q) → get_or ys q 0 ≡ get_or xs q 0)
    → ((i : ℕ) → i < len → get_or ys (at + i) 0 < p) → (q : ℕ) → get_or xs q 0 < p → get_or ys q 0 < p
below-keeps {p} at len xs ys same new q b = go (dec_lt q at) (dec_lt q (at + len))
  where
    go : Dec (q < at) → Dec (q < at + len) → get_or ys q 0 < p
    go (yes h) k = rw (same q (inl h)) b
    go (no h) (yes k) = let i : at + (q - at) ≡ q = omega arith in rw i at (new (q - at) (omega arith))
    go (no h) (no k) = rw (same q (inr (omega arith))) b

pub subtracted-keeps : {p : ℕ} → Listed p → (c to from len : ℕ) (xs : List ℕ) → to + len ≤ length xs → (q : ℕ) → get_or xs q 0 < p
    → get_or (subtracted p c to from len xs) q 0 < p
subtracted-keeps {p} l c to from len xs room =
    below-keeps to len xs (subtracted p c to from len xs) (subtracted-outside p c to from xs len)
    (λ i k. subtracted-below p c to from xs len i room k l)

pub scaled-keeps : {p : ℕ} → Listed p → (c at len : ℕ) (xs : List ℕ) → at + len ≤ length xs → (q : ℕ) → get_or xs q 0 < p
    → get_or (scaled p c at len xs) q 0 < p
scaled-keeps {p} l c at len xs room =
    below-keeps at len xs (scaled p c at len xs) (scaled-outside p c at xs len) (λ i k. scaled-below p c at xs len i room k l)
