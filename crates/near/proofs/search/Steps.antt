-- One step of the search. Q at y = g + x^i y is read off T = Q at y = g + y: its coefficients of x^v are a slice of T. If Q vanishes at
-- y = g + x^i f, and nothing stands below x^v, then the first symbol of f is a root of the slice at v.
use mathlib.Core.Path.{◌≡◌, sym, ap, ◌∙◌, fun_ext}
use Prim.Native.Nat.{ℕ, ◌+◌, ◌-◌, ◌*◌, ◌≤◌, ◌<◌}
use native.Mathlib.Omega.{arith}
use native.Mathlib.Decide.{dec_le}
use Rattle.field.specs.Field.{Ring, RingLaws, pow}
use Rattle.field.proofs.RingLaws.{one-mul}
use Rattle.field.proofs.Choices.{choose_yes, choose_no}
use Rattle.poly.specs.Polynomials.{Seq, zero_s, mul_s, Series, value, mono}
use Rattle.poly.proofs.Series.{series, zero_s-at}
use Rattle.poly.proofs.Evaluation.{value_powers}
use Rattle.poly.proofs.Shift.{shift, value-shift, value-line}
use Rattle.poly.proofs.Orders.{value-lowest}
use Rattle.poly.proofs.Monomials.{mono-mul-at, mono-mul-low, mono-pow}
use Rattle.curves.specs.Curves.{Curve}
use Rattle.near.specs.Search.{curve_at, prefixed, slice}

module _ {R : Ring} (L : RingLaws R) where
  open R use {𝟘, 𝟙}
  open Series R use {plus as ◌⊞◌, times as ◌⊠◌}

  infixl 65 ◌⊞◌
  infixl 70 ◌⊠◌
  pub slice-at : (i v : ℕ) (T : Curve R) (j : ℕ) → i * j ≤ v → slice R i v T j ≡ T j (v - i * j)
  unfolding slice
  slice-at i v T j h = choose_yes (dec_le (i * j) v) (T j (v - i * j)) 𝟘 h

  pub slice_beyond : (i v : ℕ) (T : Curve R) (j : ℕ) → v < i * j → slice R i v T j ≡ 𝟘
  unfolding slice
  slice_beyond i v T j h = choose_no (dec_le (i * j) v) (T j (v - i * j)) 𝟘 (λ k. omega arith)

  prefixed-at : (N : ℕ) (g : Seq R) (i : ℕ) (Q : Curve R) (j : ℕ)
      → curve_at R N (prefixed R g i) Q j ≡ pow (Series R) (mono R 𝟙 i) j ⊠ shift (Series R) g N Q j
  unfolding curve_at
  prefixed-at N g i Q j = value-line (series L) g (mono R 𝟙 i) N Q j

  -- Q at y = g + x^i y, by the slices of T = Q at y = g + y
  pub prefixed-slice : (N : ℕ) (g : Seq R) (i : ℕ) (Q : Curve R) (j v : ℕ)
      → curve_at R N (prefixed R g i) Q j v ≡ slice R i v (shift (Series R) g N Q) j
  prefixed-slice N g i Q j v = ap (λ (f : Seq R). f v) (prefixed-at N g i Q j) ∙ rw (mono-pow L i j) (go (dec_le (i * j) v))
    where
      T : Curve R
      T = shift (Series R) g N Q

      go : Dec (i * j ≤ v) → mul_s R (mono R 𝟙 (i * j)) (T j) v ≡ slice R i v T j
      go (yes k) =
          let e : v ≡ i * j + (v - i * j) = omega arith in
          ap (mul_s R (mono R 𝟙 (i * j)) (T j)) e ∙ mono-mul-at L 𝟙 (i * j) (v - i * j) (T j) ∙ one-mul L (T j (v - i * j))
          ∙ sym (slice-at i v T j k)
      go (no k) = mono-mul-low L 𝟙 (i * j) v (T j) (omega arith) ∙ sym (slice_beyond i v T j (omega arith))

  -- Q at y = g + x^i y, then at y = f, is Q at y = g + x^i f
  prefixed-value : (N : ℕ) (g f : Seq R) (i : ℕ) (Q : Curve R)
      → value (Series R) f N (curve_at R N (prefixed R g i) Q) ≡ value (Series R) (mono R 𝟙 i ⊠ f ⊞ g) N Q
  prefixed-value N g f i Q =
      ap (value (Series R) f N) (fun_ext (prefixed-at N g i Q))
      ∙ value_powers (series L) (mono R 𝟙 i) f N (shift (Series R) g N Q)
      ∙ value-shift (series L) (mono R 𝟙 i ⊠ f) g N Q

  -- a root's next symbol
  pub root-symbol : (N : ℕ) (g f : Seq R) (i : ℕ) (Q : Curve R) (v : ℕ) → value (Series R) (mono R 𝟙 i ⊠ f ⊞ g) N Q ≡ zero_s R
      → ((e j : ℕ) → e < v → slice R i e (shift (Series R) g N Q) j ≡ 𝟘) → value R (f 0) N (slice R i v (shift (Series R) g N Q)) ≡ 𝟘
  root-symbol N g f i Q v root none =
      ap (value R (f 0) N) (fun_ext (λ j. sym (prefixed-slice N g i Q j v)))
      ∙ sym (value-lowest L v N (curve_at R N (prefixed R g i) Q) f (λ j e l. prefixed-slice N g i Q j e ∙ none e j l))
      ∙ ap (λ (k : Seq R). k v) (prefixed-value N g f i Q ∙ root)
      ∙ zero_s-at R v
