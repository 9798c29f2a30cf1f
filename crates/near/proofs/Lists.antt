-- Lists of messages: what is on them and in which order. Two ascending lists with the same messages are equal, so there is only one
-- list that was asked for.
use mathlib.Core.Path.{◌≡◌, refl, sym, ap₂, ◌∙◌}
use mathlib.Core.Logic.{◌⊎◌, inl, inr, ⊎_elim}
use mathlib.Core.List.Memᴰ
use mathlib.Core.List.{List, [], ◌∷◌, ◌++◌}
use Prim.Native.Nat.{ℕ, zero, suc, ◌<◌}
use native.Mathlib.Omega.{arith}
use native.Mathlib.Decide.{dec_lt, ℕ_discrete}
use lib.ListN.{length, get_or}
use Rattle.field.specs.Field.{Field}
use Rattle.near.specs.Lists.{Task, polynomial, In, Before, Ascending, IsList}
use Rattle.near.specs.Search.{each}
use Rattle.near.proofs.Messages.{polynomial-same, Numbering}

pub in-each : (p : ℕ) {c : ℕ} (f : ℕ → List (List ℕ)) {x : List ℕ} → c < p → In x (f c) → In x (each p f)
unfolding each
in-each zero f l h = absurd (omega arith)
in-each (suc p) {c} f {x} l h = go (ℕ_discrete c p) (λ k. in-each p f k h)
  where
    go : Dec (c ≡ p) → (c < p → In x (each p f)) → In x (each p f ++ f p)
    go (yes e) ih = Memᴰ.append_right (each p f) (rw e at h)
    go (no e) ih = Memᴰ.append_left (f p) (ih (omega arith))

pub each_in : (p : ℕ) (f : ℕ → List (List ℕ)) {x : List ℕ} → In x (each p f) → (c : ℕ) × (c < p) × In x (f c)
unfolding each
each_in zero f h = absurd (Memᴰ.not-nil h)
each_in (suc p) f {x} h = go (Memᴰ.append_cases (each p f) h) (λ q. each_in p f q)
  where
    go : In x (each p f) ⊎ In x (f p) → (In x (each p f) → (c : ℕ) × (c < p) × In x (f c)) → (c : ℕ) × (c < suc p) × In x (f c)
    go (inl q) ih = let s = ih q in let l = s.1 in (s.0, omega arith, s.2)
    go (inr q) ih = (p, omega arith, q)

ascending-append : (l r : List (List ℕ)) → Ascending l → Ascending r → ((x y : List ℕ) → In x l → In y r → Before x y) → Ascending (l ++ r)
ascending-append [] r s t h = t
ascending-append (x ∷ l) r s t h = (
  λ y q. ⊎_elim (λ k. s.0 y k) (λ k. h x y (Memᴰ.head refl) k) (Memᴰ.append_cases l q),
  ascending-append l r s.1 t (λ x' y q k. h x' y (Memᴰ.tail q) k),
)

pub ascending-each : (p : ℕ) (f : ℕ → List (List ℕ)) → ((c : ℕ) → Ascending (f c))
    → ((b c : ℕ) (x y : List ℕ) → b < c → In x (f b) → In y (f c) → Before x y) → Ascending (each p f)
unfolding each
ascending-each zero f s h = tt
ascending-each (suc p) f s h =
    ascending-append (each p f) (f p) (ascending-each p f s h) (s p) (λ x y q k. let u = each_in p f q in h u.0 p x y u.1 u.2 k)

-- after the same first symbols
pub before-append : (x : List ℕ) {b c : ℕ} (y z : List ℕ) → b < c → Before (x ++ b ∷ y) (x ++ c ∷ z)
before-append [] y z l = inl l
before-append (a ∷ x) y z l = inr (refl, before-append x y z l)

before_asymmetric : (x y : List ℕ) → Before x y → Before y x → ⊥
before_asymmetric [] y h k = h
before_asymmetric (a ∷ x) [] h k = h
before_asymmetric (a ∷ x) (b ∷ y) (inl h) (inl k) = omega arith
before_asymmetric (a ∷ x) (b ∷ y) (inl h) (inr k) = let e = k.0 in omega arith
before_asymmetric (a ∷ x) (b ∷ y) (inr h) (inl k) = let e = h.0 in omega arith
before_asymmetric (a ∷ x) (b ∷ y) (inr h) (inr k) = before_asymmetric x y h.1 k.1

before_irreflexive : (x : List ℕ) → Before x x → ⊥
before_irreflexive x h = before_asymmetric x x h h

pub in-at : (list : List (List ℕ)) (i : ℕ) → i < length list → In (get_or list i []) list
in-at [] i l = absurd (omega arith)
in-at (x ∷ list) zero l = Memᴰ.head refl
in-at (x ∷ list) (suc i) l = Memᴰ.tail (in-at list i (omega arith))

ascending-at : (list : List (List ℕ)) → Ascending list → (i j : ℕ) → i < j → j < length list → Before (get_or list i []) (get_or list j [])
ascending-at [] s i j l k = absurd (omega arith)
ascending-at (x ∷ list) s i zero l k = absurd (omega arith)
ascending-at (x ∷ list) s zero (suc j) l k = s.0 (get_or list j []) (in-at list j (omega arith))
ascending-at (x ∷ list) s (suc i) (suc j) l k = ascending-at list s.1 i j (omega arith) (omega arith)

pub ascending-once : (list : List (List ℕ)) → Ascending list → (i j : ℕ) → i < length list → j < length list → get_or list i [] ≡ get_or list j []
    → i ≡ j
ascending-once list s i j l k e = go (dec_lt i j) (dec_lt j i)
  where
    go : Dec (i < j) → Dec (j < i) → i ≡ j
    go (yes q) d = absurd (before_irreflexive (get_or list j []) (rw e at (ascending-at list s i j q k)))
    go (no q) (yes d) = absurd (before_irreflexive (get_or list i []) (rw (sym e) at (ascending-at list s j i d l)))
    go (no q) (no d) = omega arith

ascending_unique : (l r : List (List ℕ)) → Ascending l → Ascending r → ((x : List ℕ) → In x l → In x r) → ((x : List ℕ) → In x r → In x l) → l ≡ r
ascending_unique [] [] s t to from = refl
ascending_unique [] (y ∷ r) s t to from = absurd (Memᴰ.not-nil (from y (Memᴰ.head refl)))
ascending_unique (x ∷ l) [] s t to from = absurd (Memᴰ.not-nil (to x (Memᴰ.head refl)))
ascending_unique (x ∷ l) (y ∷ r) s t to from =
    let e : x ≡ y = same (Memᴰ.cases_cons (to x (Memᴰ.head refl))) (Memᴰ.cases_cons (from y (Memᴰ.head refl))) in
    ap₂ (λ (a : List ℕ) (b : List (List ℕ)). a ∷ b) e
    (ascending_unique l r s.1 t.1
    (λ z q. ⊎_elim (λ (d : z ≡ y). absurd (before_irreflexive x (rw (d ∙ sym e) at (s.0 z q)))) (λ k. k)
    (Memᴰ.cases_cons (to z (Memᴰ.tail q))))
    (λ z q. ⊎_elim (λ (d : z ≡ x). absurd (before_irreflexive y (rw (d ∙ e) at (t.0 z q)))) (λ k. k)
    (Memᴰ.cases_cons (from z (Memᴰ.tail q)))))
  where
    same : (x ≡ y) ⊎ In x r → (y ≡ x) ⊎ In y l → x ≡ y
    same (inl e) d = e
    same (inr h) (inl e) = sym e
    same (inr h) (inr k) = absurd (before_asymmetric x y (s.0 y k) (t.0 x h))

module _ {F : Field} (task : Task F) (num : Numbering F task.p task.element) where
  pub list_unique : (l m : List (List ℕ)) → IsList task l → IsList task m → l ≡ m
  list_unique l m L M = ascending_unique l m L.ascending M.ascending (to L M) (to M L)
    where
      to : {l m : List (List ℕ)} → IsList task l → IsList task m → (x : List ℕ) → In x l → In x m
      to L M x h =
          let a = M.all (polynomial task x) (L.wanted x h) in
          Memᴰ.cast (polynomial-same task num x a.0 (L.spelt x h) (M.spelt a.0 a.1) (sym a.2)) a.1
