-- `refusals::repeated` meets its contract: some byte stands among those before it.
use Rattle.std.proofs.Common.{
  ℕ,
  ◌<◌,
  ◌≡◌,
  ◌∙◌,
  refl,
  sym,
  subst,
  Bool,
  nat_eq,
  List,
  length,
  get_or,
  take,
  length-take,
  zero-add,
  Decides,
  arith,
  rules,
  tests,
}
use Rattle.std.specs.List.{HoldsAt, range_with_len, list_any}
use Rattle.std.proofs.lemmas.Bool.Decides.{Decides-eqb, Decides-by_or, Decides-like, Decides-at, not_from_Decides}
use Rattle.std.proofs.lemmas.Iterator.{YieldsList-from_range}
use Rattle.std.proofs.lemmas.Iterator.Search.{any_from_yields_List}
use Rattle.std.proofs.lemmas.List.{get_or-take, get_or_default}
use Rattle.std.proofs.lemmas.List.FromFn.{length-range_with_len, get_or-range_with_len}
use Rattle.poly.specs.Table.{Repeated}
use Rattle.poly.proofs.refusals.repeated.Goals as goal

module _ (xs : List ℕ) where
  -- whether the byte at i stands among those before it
  abbrev earlier : ℕ → Bool
  earlier i = list_any (λ y. nat_eq y (get_or xs i 0)) (take i xs)

  abbrev IsEarlier : ℕ → Type 0
  IsEarlier i = (j : ℕ) × (j < length (take i xs)) × HoldsAt (λ y. y ≡ get_or xs i 0) (take i xs) j

  Decides-earlier : (i : ℕ) → Decides (earlier i) (IsEarlier i)
  Decides-earlier i =
      Decides-by_or (λ y. nat_eq y (get_or xs i 0)) (λ y. y ≡ get_or xs i 0) (list_any (λ y. nat_eq y (get_or xs i 0)))
      (λ y. Decides-eqb y (get_or xs i 0)) refl (λ _ _. refl) (take i xs)

  abbrev places : List ℕ
  places = range_with_len 0 (length xs)

  abbrev IsAnyEarlier : Type 0
  IsAnyEarlier = (i : ℕ) × (i < length places) × HoldsAt IsEarlier places i

  Decides-repeated : Decides (list_any earlier places) (Repeated xs)
  Decides-repeated = Decides-like _ to back (Decides-by_or earlier IsEarlier (list_any earlier) Decides-earlier refl (λ _ _. refl) places)
    where
      long : length places ≡ length xs
      long = length-range_with_len 0 (length xs)

      place : (i d : ℕ) → i < length xs → get_or places i d ≡ i
      place i d h = get_or-range_with_len 0 (length xs) i d h ∙ zero-add i

      to : IsAnyEarlier → Repeated xs
      to (i, h, w) =
          let inside : i < length xs = omega (arith, long) in
          let (j, g, e) = rw (place i 0 inside) at (w 0) in
          let apart : j < i = omega (arith, length-take i xs) in
          record { first = j; second = i; apart = apart; inside = inside; same = sym (get_or-take i xs j 0 apart) ∙ e 0 }

      back : Repeated xs → IsAnyEarlier
      back t =
          let (j, i) : ℕ × ℕ = (t.first, t.second) in
          let is : IsEarlier i = (
            j,
            omega (arith, t.apart, t.inside, length-take i xs),
            λ d. get_or-take i xs j d t.apart ∙ get_or_default xs j d 0 (omega (arith, t.apart, t.inside)) ∙ t.same,
          ) in
          (i, rw long t.inside, λ d. subst IsEarlier (sym (place i d t.inside)) is)

pub returns : goal.returns
returns c =
    let xs = c.args.xs.now in
    let is : c.any.result ≡ list_any (earlier xs) (places xs) =
    any_from_yields_List (earlier xs) _ _ c.any.result c.any.ensures.ran
    (YieldsList-from_range 0 (length xs) (length xs) refl (omega arith)) (λ x b q k. search (rules, tests)) in
    let d = Decides-at _ _ is (Decides-repeated xs) in
    record { holds = d.0; fails = not_from_Decides _ d }
