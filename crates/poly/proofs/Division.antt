-- Division by x - a: f = f (a) + (x - a) q, by Horner's rule, so a root a splits off.
use mathlib.Core.Path.{◌≡◌, refl, ◌∙◌}
use mathlib.Core.List.{[], ◌∷◌}
use Prim.Native.Nat.{ℕ, zero, suc}
use Rattle.field.specs.Field.{Ring, RingLaws}
use Rattle.field.proofs.RingLaws.{zero-add}
use Rattle.field.proofs.RingTactic.{ring}
use Rattle.poly.specs.Polynomials.{Seq, tail, zero_s, Series, cons_s, const_s, x_s, lin, Below, value}
use Rattle.poly.proofs.Series.{series, readings}
use Rattle.poly.proofs.Constants.{cons-is, cons-tail, const-zero, const-add, const-mul, lin-is}
use Rattle.poly.proofs.Bounds.{below-zero, below-tail, below-cons, below-null, below-same}
use Rattle.poly.proofs.Evaluation.{value-zero, value-suc}

module _ (R : Ring) where
  open R use {Car}

  unfoldable pub quot : Car → ℕ → Seq R → Seq R
  quot a zero f = zero_s R
  quot a (suc N) f = cons_s R (value R a N (tail R f)) (quot a N (tail R f))

  pub quot-zero : (a : Car) (f : Seq R) → quot a zero f ≡ zero_s R
  unfolding quot
  quot-zero a f = refl

  pub quot-suc : (a : Car) (N : ℕ) (f : Seq R) → quot a (suc N) f ≡ cons_s R (value R a N (tail R f)) (quot a N (tail R f))
  unfolding quot
  quot-suc a N f = refl

module _ {R : Ring} (L : RingLaws R) where
  open R use {Car, 𝟘, times as ◌⊗◌}
  open Series R use {plus as ◌⊞◌, times as ◌⊠◌, neg as ⊟◌}

  infixl 70 ◌⊗◌
  infixl 65 ◌⊞◌
  infixl 70 ◌⊠◌
  infix 75 ⊟◌
  -- the quotient is one shorter
  pub below-quot : (a : Car) (N : ℕ) (f : Seq R) → Below R N (quot R a (suc N) f)
  unfolding const_s
  below-quot a zero f =
      below-same L (quot-suc R a zero f ∙ rw (value-zero R a (tail R f), quot-zero R a (tail R f)) (const-zero L)) (below-null L zero)
  below-quot a (suc N) f = below-same L (quot-suc R a (suc N) f) (below-cons L (value R a (suc N) (tail R f)) (below-quot a N (tail R f)))

  pub divide : (a : Car) (N : ℕ) (f : Seq R) → Below R N f → f ≡ const_s R (value R a N f) ⊞ lin R a ⊠ quot R a N f
  divide a zero f h =
      rw (below-zero L h, value-zero R a (zero_s R), quot-zero R a (zero_s R), const-zero L)
      (ring (series L) (lin R a ∷ []) (search readings depth 25) tt)
  divide a (suc N) f h =
      cons-tail L f ∙ rw (
        value-suc R a N f,
        quot-suc R a N f,
        cons-is L (value R a N (tail R f)) (quot R a N (tail R f)),
        const-add L (f zero) (a ⊗ value R a N (tail R f)),
        const-mul L a (value R a N (tail R f)),
        lin-is L a,
      )
      (finish (const_s R (f zero)) (x_s R) (tail R f) (const_s R a) (const_s R (value R a N (tail R f))) (quot R a N (tail R f))
      (divide a N (tail R f) (below-tail L h) ∙ rw (lin-is L a)))
    where
      finish : (c x t d e q : Seq R) → t ≡ e ⊞ (x ⊞ ⊟ d) ⊠ q → c ⊞ x ⊠ t ≡ c ⊞ d ⊠ e ⊞ (x ⊞ ⊟ d) ⊠ (e ⊞ x ⊠ q)
      finish c x t d e q p = rw p (ring (series L) (c ∷ x ∷ d ∷ e ∷ q ∷ []) (search readings depth 25 fits 20000) tt)

  pub divide-root : (a : Car) (N : ℕ) (f : Seq R) → Below R N f → value R a N f ≡ 𝟘 → f ≡ lin R a ⊠ quot R a N f
  divide-root a N f h z = divide a N f h ∙ rw (z, const-zero L) (zero-add (series L) _)
