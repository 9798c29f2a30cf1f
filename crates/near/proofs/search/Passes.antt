-- The curve of the search, in place. Choosing c at level i is a shift of y by c x^i; it is made by passes over the powers of y, each adding
-- to an entry the next one times c x^i, and the choice of -c undoes it.
use mathlib.Core.Path.{◌≡◌, refl, sym, ap, ◌∙◌, fun_ext}
use Prim.Native.Nat.{ℕ, zero, suc, ◌+◌, ◌-◌, ◌≤◌, ◌<◌}
use native.Mathlib.Omega.{arith}
use native.Mathlib.Decide.{dec_lt}
use Rattle.field.specs.Field.{Ring, RingLaws}
use Rattle.field.proofs.RingLaws.{add-zero, mul-zero}
use Rattle.poly.specs.Polynomials.{Seq, tail, mul_s, Series, cons_s, Below, mono}
use Rattle.poly.proofs.Series.{series, add_s-at}
use Rattle.poly.proofs.Constants.{x_plus, cons_eta}
use Rattle.poly.proofs.Bounds.{below-zero, below-tail}
use Rattle.poly.proofs.Shift.{shift, shift-zero, shift-at-zero, shift-at-suc, shift-back}
use Rattle.poly.proofs.Monomials.{mono-mul-at, mono-mul-low, mono-neg}
use Rattle.curves.specs.Curves.{Curve, Height}
use Rattle.curves.proofs.Heights.{height-below}
use Rattle.near.specs.Search.{curve_at, chosen}

module _ (R : Ring) where
  open R use {Car, plus as ◌⊕◌, times as ◌⊗◌}

  infixl 65 ◌⊕◌
  infixl 70 ◌⊗◌
  -- from entry a on, in rising order: f_j becomes f_j + h f_(j+1)
  unfoldable pub pass : Car → ℕ → Seq R → Seq R
  pass h zero f j = f j ⊕ h ⊗ f (suc j)
  pass h (suc a) f zero = f zero
  pass h (suc a) f (suc j) = pass h a (tail R f) j

  -- the passes from a - 1, a - 2, .., 0
  unfoldable pub passes : Car → ℕ → Seq R → Seq R
  passes h zero f = f
  passes h (suc a) f = passes h a (pass h a f)

  passes-zero : (h : Car) (f : Seq R) → passes h zero f ≡ f
  unfolding passes
  passes-zero h f = refl

module _ {R : Ring} (L : RingLaws R) where
  open R use {Car, plus as ◌⊕◌, times as ◌⊗◌}

  infixl 65 ◌⊕◌
  infixl 70 ◌⊗◌
  pub pass-before : (h : Car) (a : ℕ) (f : Seq R) (j : ℕ) → j < a → pass R h a f j ≡ f j
  unfolding pass
  pass-before h zero f j l = absurd (omega arith)
  pass-before h (suc a) f zero l = refl
  pass-before h (suc a) f (suc j) l = pass-before h a (tail R f) j (omega arith)

  pub pass-from : (h : Car) (a : ℕ) (f : Seq R) (j : ℕ) → a ≤ j → pass R h a f j ≡ f j ⊕ h ⊗ f (suc j)
  unfolding pass
  pass-from h zero f j l = refl
  pass-from h (suc a) f zero l = absurd (omega arith)
  pass-from h (suc a) f (suc j) l = pass-from h a (tail R f) j (omega arith)

  passes-suc : (h : Car) (a : ℕ) (f : Seq R) → passes R h (suc a) f ≡ pass R h zero (cons_s R (f zero) (passes R h a (tail R f)))
  unfolding passes pass
  passes-suc h zero f = ap (pass R h zero) (sym (cons_eta L f))
  passes-suc h (suc a) f = passes-suc h a (pass R h (suc a) f)

  pub passes-shift : (h : Car) (N : ℕ) (f : Seq R) → Below R N f → passes R h N f ≡ shift R h N f
  unfolding cons_s pass
  passes-shift h zero f b = passes-zero R h f ∙ below-zero L b ∙ sym (shift-zero R h f)
  passes-shift h (suc N) f b = passes-suc h N f ∙ rw (passes-shift h N (tail R f) (below-tail L b)) (fun_ext go)
    where
      go : (j : ℕ) → pass R h zero (cons_s R (f zero) (shift R h N (tail R f))) j ≡ shift R h (suc N) f j
      go zero = sym (shift-at-zero L h N f)
      go (suc j) = sym (shift-at-suc L h N f j)

  -- the first pass changes nothing
  pub pass-top : (h : Car) (a : ℕ) (f : Seq R) → Below R (suc a) f → pass R h a f ≡ f
  pass-top h a f b = fun_ext (λ j. go j (dec_lt j a))
    where
      go : (j : ℕ) → Dec (j < a) → pass R h a f j ≡ f j
      go j (yes l) = pass-before h a f j l
      go j (no l) = pass-from h a f j (omega arith) ∙ rw (b (suc j) (omega arith), mul-zero L h) (add-zero L (f j))

pub chosen-shift : (R : Ring) (N i : ℕ) (c : R.Car) (T : Curve R) → chosen R N i c T ≡ shift (Series R) (mono R c i) N T
unfolding curve_at shift x_plus
chosen-shift R N i c T = refl

module _ {R : Ring} (L : RingLaws R) (N i : ℕ) (c : R.Car) (T : Curve R) where
  open R use {Car, plus as ◌⊕◌, times as ◌⊗◌, neg as ⊖◌}

  infixl 65 ◌⊕◌
  infixl 70 ◌⊗◌
  infix 75 ⊖◌
  pub chosen-passes : Height R N T → chosen R N i c T ≡ passes (Series R) (mono R c i) N T
  chosen-passes tall = chosen-shift R N i c T ∙ sym (passes-shift (series L) (mono R c i) N T (height-below R tall))

  pub chosen-back : Height R N T → chosen R N i (⊖ c) (chosen R N i c T) ≡ T
  chosen-back tall =
      rw (chosen-shift R N i c T, chosen-shift R N i (⊖ c) (shift (Series R) (mono R c i) N T), mono-neg L c i)
      (shift-back (series L) (mono R c i) N T (height-below R tall))

  -- one pass over the curve's symbols: T_j[d] becomes T_j[d] + c T_(j+1)[d - i], for d from i on
  module _ (a j : ℕ) (l : a ≤ j) where
    pass-curve : (d : ℕ) → pass (Series R) (mono R c i) a T j d ≡ T j d ⊕ mul_s R (mono R c i) (T (suc j)) d
    pass-curve d = ap (λ (f : Seq R). f d) (pass-from (series L) (mono R c i) a T j l)
        ∙ add_s-at R (T j) (mul_s R (mono R c i) (T (suc j))) d

    pub pass-symbol : (d : ℕ) → i ≤ d → pass (Series R) (mono R c i) a T j d ≡ T j d ⊕ c ⊗ T (suc j) (d - i)
    pass-symbol d k =
        let e : d ≡ i + (d - i) = omega arith in
        pass-curve d ∙ ap (λ (x : Car). T j d ⊕ x) (ap (mul_s R (mono R c i) (T (suc j))) e ∙ mono-mul-at L c i (d - i) (T (suc j)))

    pub pass-symbol-low : (d : ℕ) → d < i → pass (Series R) (mono R c i) a T j d ≡ T j d
    pass-symbol-low d k = pass-curve d ∙ rw (mono-mul-low L c i d (T (suc j)) k) (add-zero L (T j d))
