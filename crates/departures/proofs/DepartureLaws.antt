-- A departure and its six symbols determine each other, and a printed time is that of one minute only.
use mathlib.Core.Path.{◌≡◌, refl, sym, ap, ap₂, ◌∙◌}
use mathlib.Core.Logic.{◌↔◌}
use mathlib.Core.List.{List, [], ◌∷◌}
use Prim.Native.Nat.{ℕ, zero, suc, ◌≤◌, ◌<◌}
use native.Mathlib.Omega.{arith}
use lib.ListN.{length, get_or}
use Rattle.near.specs.Lists.{Spelt}
use Rattle.departures.specs.Departures.{InRange, IsDeparture, six_symbols, departure_of, clock, departure_field, departure_symbols, minute_most}
use Rattle.departures.specs.declared.Departure.{Departure}

pub departure-same : {a b : Departure} → a.boat ≡ b.boat → a.day ≡ b.day → a.minute ≡ b.minute → a ≡ b
departure-same {a} {b} p q r =
    ap (λ (x : ℕ). record { boat = x; day = a.day; minute = a.minute }) p
    ∙ ap₂ (λ (x y : ℕ). record { boat = b.boat; day = x; minute = y }) q r

-- its six symbols spell the departure
pub six-spell : (d : Departure) → departure_of (six_symbols d) ≡ d
six-spell d = departure-same refl (omega arith) (omega arith)

-- two departures are equal exactly when their six symbols are
pub six-same : (a b : Departure) → (a ≡ b) ↔ (six_symbols a ≡ six_symbols b)
six-same a b = (ap six_symbols, λ e. sym (six-spell a) ∙ ap departure_of e ∙ six-spell b)

-- no two minutes print alike: 24:15 is not 00:15
pub clock-once : (a b : ℕ) → a ≤ minute_most → b ≤ minute_most → clock a ≡ clock b → a ≡ b
clock-once a b ha hb e =
    let p = ap (λ (xs : List ℕ). get_or xs 0 0) e in
    let q = ap (λ (xs : List ℕ). get_or xs 1 0) e in
    let r = ap (λ (xs : List ℕ). get_or xs 3 0) e in
    let s = ap (λ (xs : List ℕ). get_or xs 4 0) e in
    omega arith

-- the six symbols of a departure in range are below 31, and it is what they spell
pub six_departure : (d : Departure) → InRange d → IsDeparture (six_symbols d)
six_departure d r =
    let e = ap (λ (x : Departure). x.minute) (six-spell d) in
    let h = r.minute in
    record { spelt = record { long = refl; small = below }; minute = omega arith }
  where
    below : (i : ℕ) → i < departure_symbols → get_or (six_symbols d) i 0 < departure_field
    below zero h = let b = r.boat in omega arith
    below (suc zero) h = let b = r.day in omega arith
    below (suc (suc zero)) h = omega arith
    below (suc (suc (suc zero))) h = let b = r.minute in omega arith
    below (suc (suc (suc (suc zero)))) h = omega arith
    below (suc (suc (suc (suc (suc zero))))) h = omega arith
    below (suc (suc (suc (suc (suc (suc i)))))) h = absurd (omega arith)

six : (xs : List ℕ) → length xs ≡ departure_symbols
    → xs ≡ get_or xs 0 0 ∷ get_or xs 1 0 ∷ get_or xs 2 0 ∷ get_or xs 3 0 ∷ get_or xs 4 0 ∷ get_or xs 5 0 ∷ []
six (a ∷ b ∷ c ∷ d ∷ e ∷ f ∷ []) h = refl
six [] h = absurd (omega arith)
six (a ∷ []) h = absurd (omega arith)
six (a ∷ b ∷ []) h = absurd (omega arith)
six (a ∷ b ∷ c ∷ []) h = absurd (omega arith)
six (a ∷ b ∷ c ∷ d ∷ []) h = absurd (omega arith)
six (a ∷ b ∷ c ∷ d ∷ e ∷ []) h = absurd (omega arith)
six (a ∷ b ∷ c ∷ d ∷ e ∷ f ∷ g ∷ xs) h = absurd (omega arith)

module _ {xs : List ℕ} (spelt : Spelt departure_field departure_symbols xs) where
  -- the symbols are those of the departure that they spell
  pub spelt-six : six_symbols (departure_of xs) ≡ xs
  spelt-six =
      let b = spelt.small 1 (omega arith) in
      let c = spelt.small 2 (omega arith) in
      let d = spelt.small 3 (omega arith) in
      let e = spelt.small 4 (omega arith) in
      let f = spelt.small 5 (omega arith) in
      digits (get_or xs 0 0) (omega arith) (omega arith) (omega arith) (omega arith) (omega arith) ∙ sym (six xs spelt.long)
    where
      digits : (x : ℕ) {a a' b b' c c' d d' e e' : ℕ} → a ≡ a' → b ≡ b' → c ≡ c' → d ≡ d' → e ≡ e'
          → x ∷ a ∷ b ∷ c ∷ d ∷ e ∷ [] ≡ x ∷ a' ∷ b' ∷ c' ∷ d' ∷ e' ∷ []
      digits x p q r s t = rw (p, q, r, s, t)

  -- every boat and every day that symbols can spell is in range
  pub spelt-range : (departure_of xs).minute ≤ minute_most → InRange (departure_of xs)
  spelt-range m =
      let a = spelt.small 0 (omega arith) in
      let b = spelt.small 1 (omega arith) in
      let c = spelt.small 2 (omega arith) in
      record { boat = omega arith; day = omega arith; minute = m }
