-- A sequence in two parts: the coefficients below x^m, and those from there on.
use mathlib.Core.Path.{◌≡◌, refl, sym, ap, ◌∙◌, fun_ext}
use Prim.Native.Nat.{ℕ, zero, suc, ◌+◌, ◌-◌, ◌<◌}
use native.Mathlib.Decide.{dec_lt}
use native.Mathlib.Nat.{zero-add, suc-add}
use native.Mathlib.Omega.{arith}
use Rattle.field.specs.Field.{Ring, RingLaws}
use Rattle.poly.specs.Polynomials.{Seq, tail, cons_s, Below}

module _ (R : Ring) where
  abbrev pub drop : ℕ → Seq R → Seq R
  drop m f = λ i. f (m + i)

  -- f below x^m, then g
  unfoldable pub join : ℕ → Seq R → Seq R → Seq R
  join zero f g = g
  join (suc m) f g = cons_s R (f zero) (join m (tail R f) g)

module _ {R : Ring} (L : RingLaws R) where
  pub join-low : (m : ℕ) (f g : Seq R) (j : ℕ) → j < m → join R m f g j ≡ f j
  unfolding join cons_s
  join-low zero f g j l = absurd (omega arith)
  join-low (suc m) f g zero l = refl
  join-low (suc m) f g (suc j) l = join-low m (tail R f) g j (omega arith)

  pub join-high : (m : ℕ) (f g : Seq R) (i : ℕ) → join R m f g (m + i) ≡ g i
  unfolding join cons_s
  join-high zero f g i = rw (zero-add i)
  join-high (suc m) f g i = rw (suc-add m i) (join-high m (tail R f) g i)

  pub below-join : (m K : ℕ) (f g : Seq R) → Below R K g → Below R (m + K) (join R m f g)
  below-join m K f g h i l = let e : i ≡ m + (i - m) = omega arith in ap (join R m f g) e ∙ join-high m f g (i - m) ∙ h (i - m) (omega arith)

  -- equal below x^m and equal from there on
  pub parts_ext : (m : ℕ) (f g : Seq R) → ((j : ℕ) → j < m → f j ≡ g j) → ((i : ℕ) → f (m + i) ≡ g (m + i)) → f ≡ g
  parts_ext m f g low high = fun_ext (λ j. go j (dec_lt j m))
    where
      go : (j : ℕ) → Dec (j < m) → f j ≡ g j
      go j (yes l) = low j l
      go j (no l) = let e : j ≡ m + (j - m) = omega arith in ap f e ∙ high (j - m) ∙ sym (ap g e)
