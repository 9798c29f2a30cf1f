-- `field::is_listed` meets its contract: the keys of the match's arms are the numbers of the list.
use mathlib.Core.Path.{◌≡◌, refl, sym}
use mathlib.Core.Logic.{inl, inr, ⊎_elim}
use mathlib.Core.Bool.{Bool, true, false}
use mathlib.Core.List.{List, [], ◌∷◌}
use Prim.Native.Nat.{ℕ}
use lib.Dec.{eqb}
use types.Run.{OneOf}
use borrow.Author.Tests.{eq-eqb, ne_eqb}
use Rattle.field.specs.Symbols.{or, among, primes, listed}
use Rattle.field.proofs.is_listed.Goals as goal

or-true : (a b : Bool) → b ≡ true → or a b ≡ true
or-true true b e = refl
or-true false b e = e

among-true : (ks : List ℕ) (x : ℕ) → OneOf ks x → among ks x ≡ true
among-true [] x h = absurd h
among-true (k ∷ []) x h = rw (eq-eqb x k h)
among-true (k ∷ (j ∷ ks)) x h = ⊎_elim (λ e. rw (eq-eqb x k e)) (λ o. or-true (eqb x k) _ (among-true (j ∷ ks) x o)) h

among-false : (ks : List ℕ) (x : ℕ) → (OneOf ks x → ⊥) → among ks x ≡ false
among-false [] x n = refl
among-false (k ∷ []) x n = rw (ne_eqb x k n)
among-false (k ∷ (j ∷ ks)) x n = rw (ne_eqb x k (λ e. n (inl e))) (among-false (j ∷ ks) x (λ o. n (inr o)))

unlisted : (x : ℕ) → (OneOf primes x → ⊥) → (x ≡ 16 → ⊥) → false ≡ listed x
unfolding listed
unlisted x n other = rw (ne_eqb x 16 other) (sym (among-false primes x n))

pub returns-then-p-eq16 : goal.returns-then-p-eq16
unfolding listed
returns-then-p-eq16 c = rw c.if-p-eq16.true

pub returns-in-3 : goal.returns-in-3
unfolding listed
returns-in-3 c = sym (or-true (eqb c.args.p 16) _ (among-true primes c.args.p c.in-3.is))

pub returns-in_default : goal.returns-in_default
returns-in_default c = let h = c.in_default in let other = c.if-p-eq16.false in search (unlisted c.args.p)
