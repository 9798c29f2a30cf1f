-- A polynomial of degree at most u added to y keeps a curve's weight. So Q (x, g (x)) has a degree of at most the weight of Q.
use mathlib.Core.Path.{◌≡◌, sym, ap, ◌∙◌}
use Prim.Native.Nat.{ℕ, zero, suc, ◌+◌, ◌-◌, ◌*◌, ◌≤◌, zero-le}
use native.Mathlib.Omega.{arith}
use Rattle.field.specs.Field.{Ring, RingLaws}
use Rattle.poly.specs.Polynomials.{Seq, tail, Series, Below, value}
use Rattle.poly.proofs.Series.{series}
use Rattle.poly.proofs.Bounds.{below-add, below-same, below-product}
use Rattle.poly.proofs.Shift.{shift, shift-zero, shift-at-zero, shift-at-suc, shift-value}
use Rattle.curves.specs.Curves.{Curve, Under}
use Rattle.curves.proofs.Heights.{zero-at}

module _ {R : Ring} (L : RingLaws R) where
  open Series R use {times as ◌⊠◌}

  infixl 70 ◌⊠◌
  -- `Under` with 0 for the power of y: the weight is below W
  pub under-shift : (u W N : ℕ) (Q : Curve R) (g : Seq R) → Below R (suc u) g → Under R u W 0 Q → Under R u W 0 (shift (Series R) g N Q)
  under-shift u W zero Q g short light j e l q = ap (λ (P : Curve R). P j e) (shift-zero (Series R) g Q) ∙ zero-at R j e
  under-shift u W (suc N) Q g short light j e l q =
      go j e l (under-shift u (W - u) N (tail (Series R) Q) g short (λ j t k z. light (suc j) t (omega arith) (λ _. zero-le)))
    where
      S : Curve R
      S = shift (Series R) g N (tail (Series R) Q)

      go : (j e : ℕ) → W ≤ e + u * j → Under R u (W - u) 0 S → shift (Series R) g (suc N) Q j e ≡ R.𝟘
      go zero e l ih =
          rw (shift-at-zero (series L) g N Q)
          (below-add L {N = W} {f = Q 0} {g = g ⊠ S 0} (λ t k. light 0 t (omega arith) (λ _. zero-le))
          (below-product L u W g (S 0) short (λ t k. ih 0 t (omega arith) (λ _. zero-le))) e (omega arith))
      go (suc j) e l ih =
          rw (shift-at-suc (series L) g N Q j)
          (below-add L {N = W - u * suc j} {f = S j} {g = g ⊠ S (suc j)}
          (λ t k. ih j t (omega arith) (λ _. zero-le))
          (below-product L u (W - u * suc j) g (S (suc j)) short (λ t k. ih (suc j) t (omega arith) (λ _. zero-le)))
          e (omega arith))

  pub below_graph : (u W N : ℕ) (Q : Curve R) (g : Seq R) → Below R (suc u) g → Under R u W 0 Q → Below R W (value (Series R) g N Q)
  below_graph u W N Q g short light =
      below-same L (sym (shift-value (series L) g N Q)) (λ e l. under-shift u W N Q g short light 0 e (omega arith) (λ _. zero-le))
