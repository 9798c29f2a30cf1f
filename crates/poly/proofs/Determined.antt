-- What `Encoded` says fixes the number, and so the result, and every byte of the word.
use mathlib.Core.Path.{◌≡◌, sym, ◌∙◌}
use mathlib.Core.List.{List}
use Prim.Native.Nat.{ℕ, ◌<◌}
use native.Mathlib.Decide.{ℕ_discrete, dec_lt}
use native.Mathlib.Omega.{arith}
use lib.ListN.{length, get_or}
use lib.Seq.{ext_get_or}
use Rattle.std.specs.Prelude.{Result}
use Rattle.poly.specs.Encode.{encode_table, Encoded}
use Rattle.poly.specs.Refusals.{outcome}
use Rattle.poly.specs.declared.refused.Refused.{Refused}
use Rattle.poly.proofs.TableLaws.{first_determined}
use Rattle.poly.proofs.RefusalLaws.{outcome-determines}

module _ {p : ℕ} {points message before : List ℕ} where
  -- two outcomes of encode for the same arguments are the same
  pub encode_determined : {after also : List ℕ} {m n : ℕ} → Encoded p points message before after m → Encoded p points message before also n
      → (m ≡ n) × (after ≡ also)
  encode_determined {after} {also} {m} {n} a b =
      (same, ext_get_or 0 after also (a.long ∙ sym b.long) (λ s h. byte s (ℕ_discrete m 0) (dec_lt s (length points))))
    where
      same : m ≡ n
      same = first_determined (encode_table p points message before) m n a.first b.first

      byte : (s : ℕ) → Dec (m ≡ 0) → Dec (s < length points) → get_or after s 0 ≡ get_or also s 0
      byte s (yes e) (yes h) = a.word e s h ∙ sym (b.word (sym same ∙ e) s h)
      byte s (yes e) (no h) = a.rest s (λ z. omega arith) ∙ sym (b.rest s (λ z. omega arith))
      byte s (no e) h = a.rest s (λ z. absurd (e z)) ∙ sym (b.rest s (λ z. absurd (e (same ∙ z))))

  pub encode_result_determined : {after also : List ℕ} (r q : Result Unit Refused) → Encoded p points message before after (outcome r)
      → Encoded p points message before also (outcome q) → (r ≡ q) × (after ≡ also)
  encode_result_determined r q a b = let (same, bytes) = encode_determined a b in (outcome-determines r q same, bytes)
