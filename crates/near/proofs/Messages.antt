-- Messages as numbers and as polynomials: every polynomial of degree below k is spelt by k numbers, and by no others.
use mathlib.Core.Path.{◌≡◌, refl, sym, ap, ap₂, ◌∙◌, fun_ext}
use mathlib.Core.List.{List, [], ◌∷◌, ◌++◌}
use Prim.Native.Nat.{ℕ, zero, suc, ◌+◌, ◌≤◌, ◌<◌}
use native.Mathlib.Nat.{add-zero as n-add-zero, mod-lt}
use native.Mathlib.Omega.{arith}
use lib.ListN.{length, get_or, get_or-append, get_or-eq_default}
use lib.Seq.{ext_get_or, get_or-append-add}
use Rattle.field.specs.Field.{Ring, RingLaws, Field, FieldLaws}
use Rattle.field.specs.Symbols.{symbol, symbols}
use Rattle.field.specs.Operations.{Listed}
use Rattle.field.proofs.RingLaws.{add-zero, zero-add, one-mul}
use Rattle.field.proofs.SymbolLaws.{symbol-byte, symbol_injective}
use Rattle.poly.specs.Polynomials.{Seq, tail, Series, const_s, Below, mono}
use Rattle.poly.proofs.Series.{add_s-at}
use Rattle.poly.proofs.Constants.{const_s-zero, const_s-suc}
use Rattle.poly.proofs.Parts.{parts_ext}
use Rattle.poly.proofs.Monomials.{mono-zero, mono-mul-at, mono-mul-low, mono-mono}
use Rattle.near.specs.Lists.{Task, polynomial, Spelt}

-- element 0 is zero, and each element of the field is element c for one c below p, and for no other below p
pub record Numbering (F : Field) (p : ℕ) (element : ℕ → F.ring.Car) : Type 0 where
  pub null : element 0 ≡ F.ring.𝟘
  pub all : (e : F.ring.Car) → (c : ℕ) × (c < p) × (element c ≡ e)
  pub once : (b c : ℕ) → b < p → c < p → element b ≡ element c → b ≡ c

pub spelt-nil : {p : ℕ} → Spelt p 0 []
spelt-nil = record { long = refl; small = λ i l. absurd (omega arith) }

pub spelt-cons : {p k c : ℕ} {x : List ℕ} → c < p → Spelt p k x → Spelt p (suc k) (c ∷ x)
spelt-cons {p} {k} {c} {x} l s = record { long = ap suc s.long; small = small }
  where
    small : (i : ℕ) → i < suc k → get_or (c ∷ x) i 0 < p
    small zero q = l
    small (suc i) q = s.small i (omega arith)

-- the symbols of a listed p, in the order of their numbers
pub symbols_numbered : {p : ℕ} → Listed p → Numbering (symbols p) p (symbol p)
symbols_numbered {p} h =
    record {
      null = refl;
      all = λ e. (e.byte, rw (sym e.own) (mod-lt e.byte (omega arith)), symbol-byte p e);
      once = λ b c. symbol_injective p;
    }

module _ {F : Field} (task : Task F) (num : Numbering F task.p task.element) where
  pub polynomial-same : {k : ℕ} (x y : List ℕ) → Spelt task.p k x → Spelt task.p k y → polynomial task x ≡ polynomial task y → x ≡ y
  polynomial-same x y sx sy e =
      let lx = sx.long in
      let ly = sy.long in
      ext_get_or 0 x y (omega arith)
      (λ i l. num.once (get_or x i 0) (get_or y i 0) (sx.small i (omega arith)) (sy.small i (omega arith)) (ap (λ (g : Seq F.ring). g i) e))

  pub spell : (k : ℕ) (g : Seq F.ring) → Below F.ring k g → (x : List ℕ) × Spelt task.p k x × (polynomial task x ≡ g)
  spell zero g h = ([], spelt-nil, fun_ext (λ i. num.null ∙ sym (h i (omega arith))))
  spell (suc k) g h =
      let a = num.all (g 0) in
      let b = spell k (tail F.ring g) (λ i l. h (suc i) (omega arith)) in
      (a.0 ∷ b.0, spelt-cons a.1 b.1, fun_ext (at a.0 b.0 a.2 b.2))
    where
      at : (c : ℕ) (x : List ℕ) → task.element c ≡ g 0 → polynomial task x ≡ tail F.ring g → (i : ℕ) → polynomial task (c ∷ x) i ≡ g i
      at c x e f zero = e
      at c x e f (suc i) = ap (λ (g : Seq F.ring). g i) f

  pub polynomial_beyond : (x : List ℕ) (i : ℕ) → length x ≤ i → polynomial task x i ≡ F.ring.𝟘
  polynomial_beyond x i l = ap task.element (get_or-eq_default x 0 l) ∙ num.null

module _ {F : Field} (Φ : FieldLaws F) (task : Task F) (num : Numbering F task.p task.element) where
  abbrev R : Ring
  R = F.ring

  abbrev L : RingLaws R
  L = Φ.ring

  open R use {𝟙, plus as ◌⊕◌}
  open Series R use {plus as ◌⊞◌, times as ◌⊠◌}

  infixl 65 ◌⊕◌ ◌⊞◌
  infixl 70 ◌⊠◌
  -- the symbols of x, and then those of y
  pub polynomial-append : (x y : List ℕ) → polynomial task (x ++ y) ≡ mono R 𝟙 (length x) ⊠ polynomial task y ⊞ polynomial task x
  polynomial-append x y =
      parts_ext L (length x) (polynomial task (x ++ y)) (Y ⊞ polynomial task x)
      (λ j l. ap task.element (get_or-append x y 0 j l)
      ∙ sym (add_s-at R Y (polynomial task x) j ∙ rw (mono-mul-low L 𝟙 (length x) j (polynomial task y) l) (zero-add L (polynomial task x j))))
      (λ i. ap task.element (get_or-append-add x y i 0)
      ∙ sym (add_s-at R Y (polynomial task x) (length x + i)
      ∙ ap₂ ◌⊕◌ (mono-mul-at L 𝟙 (length x) i (polynomial task y) ∙ one-mul L (polynomial task y i))
      (polynomial_beyond task num x (length x + i) (omega arith))
      ∙ add-zero L (polynomial task y i)))
    where
      Y : Seq R
      Y = mono R 𝟙 (length x) ⊠ polynomial task y

  pub polynomial_snoc : (x : List ℕ) (c : ℕ) → polynomial task (x ++ (c ∷ [])) ≡ mono R (task.element c) (length x) ⊞ polynomial task x
  polynomial_snoc x c =
      polynomial-append x (c ∷ [])
      ∙ rw (fun_ext one, ← mono-zero R (task.element c), mono-mono L (length x) (task.element c) 0, n-add-zero (length x))
    where
      one : (i : ℕ) → polynomial task (c ∷ []) i ≡ const_s R (task.element c) i
      one zero = sym (const_s-zero R (task.element c))
      one (suc i) = num.null ∙ sym (const_s-suc R (task.element c) i)
