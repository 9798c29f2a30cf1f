-- What a test for fitting symbols computes: whether a coefficient is not zero, and the least power that passes.
use mathlib.Core.Path.{◌≡◌, refl, sym, ap, ◌∙◌}
use mathlib.Core.Logic.{◌≢◌}
use mathlib.Core.Bool.{Bool, true, false}
use Prim.Native.Nat.{ℕ, zero, suc, ◌≤◌, ◌<◌, zero-le}
use native.Mathlib.Nat.{zero-add}
use native.Mathlib.Decide.{ℕ_discrete}
use native.Mathlib.Omega.{arith}
use lib.ListN.{length}
use Rattle.std.specs.Bool.{MatchBool}
use Rattle.std.specs.List.{range_with_len, AllWithin, HoldsAt}
use Rattle.std.specs.Prelude.{Option, None, Some}
use Rattle.std.specs.Option.{MatchOption, unwrap_or}
use Rattle.std.proofs.lemmas.List.FromFn.{length-range_with_len, get_or-range_with_len}
use Rattle.field.specs.Field.{Field}
use Rattle.field.specs.Symbols.{symbols}
use Rattle.field.proofs.SymbolLaws.{byte-zero, zero-is}
use Rattle.field.specs.Choices.{choose}
use Rattle.field.proofs.Choices.{choose_yes}
use Rattle.poly.specs.Polynomials.{Seq}
use Rattle.near.specs.Search.{least, some?}

module _ (F : Field) where
  pub some-none : (N : ℕ) (f : Seq F.ring) → ((j : ℕ) → j < N → f j ≡ F.ring.𝟘) → some? F N f ≡ false
  unfolding some?
  some-none zero f h = refl
  some-none (suc N) f h = choose_yes (F.same? (f N) F.ring.𝟘) (some? F N f) true (h N (omega arith))
      ∙ some-none N f (λ j l. h j (omega arith))

  pub some-one : (N : ℕ) (f : Seq F.ring) (j : ℕ) → j < N → f j ≢ F.ring.𝟘 → some? F N f ≡ true
  unfolding some?
  some-one zero f j l n = absurd (omega arith)
  some-one (suc N) f j l n = go (F.same? (f N) F.ring.𝟘) (ℕ_discrete j N) (λ k. some-one N f j k n)
    where
      go : (d : Dec (f N ≡ F.ring.𝟘)) → Dec (j ≡ N) → (j < N → some? F N f ≡ true) → choose d (some? F N f) true ≡ true
      go (yes z) (yes e) ih = absurd (n (rw e z))
      go (yes z) (no e) ih = ih (omega arith)
      go (no z) e ih = refl

-- the same, asked of the bytes 0, .., N - 1 one after the other
pub some-any : (p N : ℕ) (f : Seq (symbols p).ring) (r : Bool)
    → MatchBool r ((k : ℕ) × (k < length (range_with_len 0 N)) × HoldsAt (λ j. (f j).byte ≡ 0 → ⊥) (range_with_len 0 N) k)
    (AllWithin (λ j. (f j).byte ≡ 0) (range_with_len 0 N) 0 (length (range_with_len 0 N)))
    → r ≡ some? (symbols p) N f
some-any p N f true (k, l, h) =
    let i : k < N = rw length-range_with_len at l in
    let e = get_or-range_with_len 0 N k 0 i ∙ zero-add k in
    sym (some-one (symbols p) N f k i (λ z. (rw e at (h 0)) (byte-zero p z)))
some-any p N f false h =
    sym (some-none (symbols p) N f (λ j l.
    let e = get_or-range_with_len 0 N j 0 l ∙ zero-add j in
    zero-is p (rw e at (h j 0 zero-le (rw length-range_with_len l)))))

pub least-at : (W : ℕ) (test : ℕ → Bool) (v : ℕ) → v ≤ W → ((i : ℕ) → i < v → test i ≡ false) → (v < W → test v ≡ true) → least W test ≡ v
unfolding least
least-at zero test v l none one = omega arith
least-at (suc W) test zero l none one = rw (one (omega arith), least)
least-at (suc W) test (suc v) l none one =
    rw (none 0 (omega arith), least)
    (ap suc (least-at W (λ i. test (suc i)) v (omega arith) (λ i k. none (suc i) (omega arith)) (λ k. one (omega arith))))

-- the same, found by a search from 0 up
pub least-found : (W : ℕ) (test : ℕ → Bool) (r : Option ℕ)
    → MatchOption r ((k : ℕ) → 0 ≤ k → k < W → test k ≡ false)
    (λ v. (0 ≤ v) × (v < W) × (test v ≡ true) × ((k : ℕ) → 0 ≤ k → k < v → test k ≡ false))
    → unwrap_or r W ≡ least W test
least-found W test None h = sym (least-at W test W (omega arith) (λ k l. h k zero-le l) (λ l. absurd (omega arith)))
least-found W test (Some v) h = let l = h.1 in sym (least-at W test v (omega arith) (λ k l. h.3 k zero-le l) (λ l. h.2))
