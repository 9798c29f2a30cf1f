-- Bytes that a text does not have. The first place of a byte parts a text in one way only.
use mathlib.Core.Path.{◌≡◌, refl}
use mathlib.Core.List.{List, [], ◌∷◌, ◌++◌}
use Prim.Native.Nat.{ℕ, zero, suc, suc-le-suc}
use native.Mathlib.Omega.{arith}
use Rattle.text.specs.Reading.{Free}

free-tail : (b x : ℕ) (xs : List ℕ) → Free b (x ∷ xs) → Free b xs
free-tail b x xs f i h = f (suc i) (suc-le-suc h)

pub free-cons : (b x : ℕ) (xs : List ℕ) → (x ≡ b → ⊥) → Free b xs → Free b (x ∷ xs)
free-cons b x xs n f zero h e = n e
free-cons b x xs n f (suc i) h e = f i (omega arith) e

pub free-join : (b : ℕ) (xs ys : List ℕ) → Free b xs → Free b ys → Free b (xs ++ ys)
free-join b [] ys f g = g
free-join b (x ∷ xs) ys f g = free-cons b x (xs ++ ys) (f zero (omega arith)) (free-join b xs ys (free-tail b x xs f) g)

pub free_not : (b : ℕ) (xs p : List ℕ) → Free b (xs ++ b ∷ p) → ⊥
free_not b [] p f = f zero (omega arith) refl
free_not b (x ∷ xs) p f = free_not b xs p (free-tail b x (xs ++ b ∷ p) f)

pub free-parts : (b : ℕ) (xs ys p q : List ℕ) → Free b xs → Free b ys → xs ++ b ∷ p ≡ ys ++ b ∷ q → (xs ≡ ys) × (p ≡ q)
free-parts b [] [] p q f g e = (refl, (cc))
free-parts b [] (y ∷ ys) p q f g e = absurd (g zero (omega arith) (cc))
free-parts b (x ∷ xs) [] p q f g e = absurd (f zero (omega arith) (cc))
free-parts b (x ∷ xs) (y ∷ ys) p q f g e =
    let r = free-parts b xs ys p q (free-tail b x xs f) (free-tail b y ys g) (cc) in
    let h : x ≡ y = cc in
    (λ i. h i ∷ r.0 i, r.1)
