-- A text has at most one meaning: a line's value has no line feed, so two readings of a line agree on it and on the rest.
use mathlib.Core.Path.{◌≡◌, sym, ◌∙◌, subst}
use mathlib.Core.List.{List, ◌∷◌, ◌++◌, append_assoc, append_cancel_left}
use Prim.Native.Nat.{ℕ}
use native.Mathlib.Omega.{arith}
use Rattle.text.specs.Lines.{line}
use Rattle.text.specs.Requests.{Number, FewNumbers, Optional, Line, Meaning, Readable}
use Rattle.text.specs.Reading.{Free}
use Rattle.text.proofs.Seeking.{free-parts}
use Rattle.text.proofs.Numbers.{number-same, number-free, numbers-same, numbers-free, optional-same, optional-free}

-- what makes a kind of value fit for a line
pub record Plain {A : Type 0} (Value : List ℕ → A → Type 0) : Type 0 where
  pub same : (text : List ℕ) (x y : A) → Value text x → Value text y → x ≡ y
  pub free : (text : List ℕ) (x : A) → Value text x → Free 10 text

pub number_plain : Plain Number
number_plain = record { same = λ text x y. number-same; free = λ text x. number-free 10 (omega arith) }

pub optional_plain : (other : ℕ) → Plain (Optional other)
optional_plain other = record { same = λ text x y. optional-same other; free = λ text x. optional-free other }

pub listed_plain : Plain FewNumbers
listed_plain = record { same = λ text x y p q. numbers-same p.numbers q.numbers; free = λ text x p. numbers-free p.numbers }

pub line-flat : (key v rest : List ℕ) → line key v ++ rest ≡ key ++ (v ++ 10 ∷ rest)
line-flat key v rest = simp append_assoc

pub line-parts : (key v w p q : List ℕ) → Free 10 v → Free 10 w → line key v ++ p ≡ line key w ++ q → (v ≡ w) × (p ≡ q)
line-parts key v w p q f g e =
    free-parts 10 v w p q f g (append_cancel_left key (v ++ 10 ∷ p) (w ++ 10 ∷ q) (sym (line-flat key v p) ∙ e ∙ line-flat key w q))

pub line-map : {key text : List ℕ} {P Q R S : List ℕ → Type 0} → ((v : List ℕ) → P v → Q v) → ((rest : List ℕ) → R rest → S rest)
    → Line key P R text → Line key Q S text
line-map f g a = record { value = a.value; rest = a.rest; is = a.is; means = f a.value a.means; follows = g a.rest a.follows }

-- two readings of one line
pub record Same {A : Type 0} (x y : A) (R S : List ℕ → Type 0) : Type 0 where
  pub is : x ≡ y
  pub rest : List ℕ
  pub left : R rest
  pub right : S rest

pub line-same : {A : Type 0} {Value : List ℕ → A → Type 0} {key text : List ℕ} {x y : A} {R S : List ℕ → Type 0} → Plain Value
    → Line key (λ v. Value v x) R text → Line key (λ v. Value v y) S text → Same x y R S
line-same {Value = Value} {key = key} {x = x} {y = y} {S = S} plain a b =
    let e = line-parts key a.value b.value a.rest b.rest (plain.free a.value x a.means) (plain.free b.value y b.means)
    (sym a.is ∙ b.is) in
    record {
      is = plain.same b.value x y (subst (λ v. Value v x) e.0 a.means) b.means;
      rest = a.rest;
      left = a.follows;
      right = subst S (sym e.1) b.follows;
    }

pub one-meaning : {text : List ℕ} {r s : Meaning} → Readable text r → Readable text s → r ≡ s
one-meaning {r = r} {s = s} p q =
    let field = line-same number_plain p q in
    let k = line-same number_plain field.left field.right in
    let m = line-same (optional_plain 1) k.left k.right in
    let l = line-same (optional_plain r.m) m.left (line-map (λ v. subst (λ x. Optional x v s.l) (sym m.is)) (λ rest h. h) m.right) in
    let t = line-same number_plain l.left l.right in
    let points = line-same listed_plain t.left t.right in
    let word = line-same listed_plain points.left points.right in
    λ i. record {
      field = field.is i;
      k = k.is i;
      m = m.is i;
      l = l.is i;
      t = t.is i;
      points = points.is i;
      word = word.is i;
    }
