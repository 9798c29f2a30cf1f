-- Two runs of bytes change places: the lower run ends where the upper begins, or before.
use mathlib.Core.Path.{◌≡◌, ◌∙◌}
use mathlib.Core.Logic.{◌⊎◌, inl, inr, ⊎_elim}
use mathlib.Core.List.{List, ◌++◌}
use Prim.Native.Nat.{ℕ, ◌+◌, ◌-◌, ◌≤◌, ◌<◌, min, max}
use native.Mathlib.Decide.{dec_le}
use native.Mathlib.Omega.{arith}
use lib.ListN.{length, get_or, take, drop}
use Rattle.std.proofs.lemmas.List.{length-append, length-take-le, length-drop, get_or-take, get_or-drop, get_or_append_left, get_or-append_right}
use Rattle.rows.specs.Work.{Exchanges, Exchanged}

module _ (xs : List ℕ) (low high len : ℕ) (h : low + len ≤ high) (k : high + len ≤ length xs) where
  -- the bytes from the lower run to the upper, and those from the upper on
  abbrev front : List ℕ
  front = take high xs

  abbrev back : List ℕ
  back = drop high xs

  abbrev left : List ℕ
  left = take low front ++ (take len back ++ drop len (drop low front))

  abbrev right : List ℕ
  right = take len (drop low front) ++ drop len back

  front-long : length front ≡ high
  front-long = length-take-le high xs (omega arith)

  back-long : length back ≡ length xs - high
  back-long = length-drop high xs

  low-long : length (take low front) ≡ low
  low-long = length-take-le low front (omega (arith, front-long))

  first-long : length (take len back) ≡ len
  first-long = length-take-le len back (omega (arith, back-long))

  second-long : length (take len (drop low front)) ≡ len
  second-long = length-take-le len (drop low front) (omega (arith, length-drop low front, front-long))

  left-long : length left ≡ high
  left-long = omega (
    arith,
    length-append (take low front) (take len back ++ drop len (drop low front)),
    length-append (take len back) (drop len (drop low front)),
    length-drop len (drop low front),
    length-drop low front,
    front-long,
    low-long,
    first-long,
  )

  exchanged-long : length (left ++ right) ≡ length xs
  exchanged-long = omega (
    arith,
    length-append left right,
    length-append (take len (drop low front)) (drop len back),
    length-drop len back,
    back-long,
    left-long,
    second-long,
  )

  at-left : (q : ℕ) → q < high → get_or (left ++ right) q 0 ≡ get_or left q 0
  at-left q l = get_or_append_left left right 0 q (omega (arith, left-long))

  at-right : (i : ℕ) → get_or (left ++ right) (high + i) 0 ≡ get_or right i 0
  at-right i =
      let e : high + i - high ≡ i = omega arith in
      rw e at (get_or-append_right left right high (high + i) 0 left-long (omega arith))

  at-front : (q : ℕ) → q < high → get_or front q 0 ≡ get_or xs q 0
  at-front q l = get_or-take high xs q 0 l

  before : (q : ℕ) → q < low → get_or (left ++ right) q 0 ≡ get_or xs q 0
  before q l =
      at-left q (omega arith)
      ∙ get_or_append_left (take low front) (take len back ++ drop len (drop low front)) 0 q (omega (arith, low-long))
      ∙ get_or-take low front q 0 l
      ∙ at-front q (omega arith)

  past-low : (i : ℕ) → low + i < high → get_or (left ++ right) (low + i) 0 ≡ get_or (take len back ++ drop len (drop low front)) i 0
  past-low i l =
      let e : low + i - low ≡ i = omega arith in
      at-left (low + i) l
      ∙ rw e at (get_or-append_right (take low front) (take len back ++ drop len (drop low front)) low (low + i) 0 low-long (omega arith))

  first : (i : ℕ) → i < len → get_or (left ++ right) (low + i) 0 ≡ get_or xs (high + i) 0
  first i l =
      past-low i (omega arith)
      ∙ get_or_append_left (take len back) (drop len (drop low front)) 0 i (omega (arith, first-long))
      ∙ get_or-take len back i 0 l
      ∙ get_or-drop high xs i 0

  between : (i : ℕ) → low + (len + i) < high → get_or (left ++ right) (low + (len + i)) 0 ≡ get_or xs (low + (len + i)) 0
  between i l =
      let e : len + i - len ≡ i = omega arith in
      past-low (len + i) l
      ∙ rw e at (get_or-append_right (take len back) (drop len (drop low front)) len (len + i) 0 first-long (omega arith))
      ∙ get_or-drop len (drop low front) i 0
      ∙ get_or-drop low front (len + i) 0
      ∙ at-front (low + (len + i)) l

  second : (i : ℕ) → i < len → get_or (left ++ right) (high + i) 0 ≡ get_or xs (low + i) 0
  second i l =
      at-right i
      ∙ get_or_append_left (take len (drop low front)) (drop len back) 0 i (omega (arith, second-long))
      ∙ get_or-take len (drop low front) i 0 l
      ∙ get_or-drop low front i 0
      ∙ at-front (low + i) (omega arith)

  after : (i : ℕ) → get_or (left ++ right) (high + (len + i)) 0 ≡ get_or xs (high + (len + i)) 0
  after i =
      let e : len + i - len ≡ i = omega arith in
      at-right (len + i)
      ∙ rw e at (get_or-append_right (take len (drop low front)) (drop len back) len (len + i) 0 second-long (omega arith))
      ∙ get_or-drop len back i 0
      ∙ get_or-drop high xs (len + i) 0

  rest : (q : ℕ) → (q < low) ⊎ (low + len ≤ q) → (q < high) ⊎ (high + len ≤ q) → get_or (left ++ right) q 0 ≡ get_or xs q 0
  rest q (inl g) m = before q g
  rest q (inr g) (inl m) = let e : low + (len + (q - (low + len))) ≡ q = omega arith in rw e at (between (q - (low + len)) (omega arith))
  rest q (inr g) (inr m) = let e : high + (len + (q - (high + len))) ≡ q = omega arith in rw e at (after (q - (high + len)))

  exchanged-up : Exchanged low high len xs (left ++ right)
  exchanged-up = record { long = exchanged-long; first = first; second = second; rest = rest }

  exchanged-down : Exchanged high low len xs (left ++ right)
  exchanged-down = record { long = exchanged-long; first = second; second = first; rest = λ q g m. rest q m g }

-- what the split, the exchange of the two runs and the joined parts leave
pub exchanged : {a b len low high n : ℕ} {xs front back self other : List ℕ} → Exchanges a b len xs → low ≡ min a b → high ≡ max a b → n ≡ len
    → front ≡ take high xs → back ≡ drop high xs → self ≡ take len back → other ≡ take n (drop low front)
    → Exchanged a b len xs ((take low front ++ (self ++ drop n (drop low front))) ++ (other ++ drop len back))
exchanged {a} {b} {len} {low} {high} {n} {xs} e low-is high-is n-is fs bs ss os = rw (ss, os, fs, bs, n-is) (go (dec_le a b))
  where
    go : Dec (a ≤ b) → Exchanged a b len xs ((take low (take high xs) ++ (take len (drop high xs) ++ drop len (drop low (take high xs))))
        ++ (take len (drop low (take high xs)) ++ drop len (drop high xs)))
    go (yes h) =
        let x : low ≡ a = omega arith in
        let y : high ≡ b = omega arith in
        rw (x, y) (exchanged-up xs a b len (⊎_elim (λ m. m) (λ m. omega arith) e.apart) e.second)
    go (no h) =
        let x : low ≡ b = omega arith in
        let y : high ≡ a = omega arith in
        rw (x, y) (exchanged-down xs b a len (⊎_elim (λ m. omega arith) (λ m. m) e.apart) e.first)
