-- The search gives the list, and the list has at most l messages: those on it are different roots of a curve of height at most l.
use mathlib.Core.Path.{◌≡◌, ap, ◌∙◌}
use mathlib.Core.Logic.{◌≢◌}
use mathlib.Core.List.{List, []}
use Prim.Native.Nat.{ℕ, suc, ◌-◌, ◌*◌, ◌≤◌, ◌<◌}
use lib.ListN.{length, get_or}
use Rattle.field.specs.Field.{Ring, Field, FieldLaws}
use Rattle.poly.specs.Polynomials.{Seq, zero_s, Series, value}
use Rattle.poly.proofs.Series.{series}
use Rattle.poly.proofs.CoprimePowers.{roots-at-most, polynomials-apart, Distinct}
use Rattle.curves.specs.Curves.{Curve, Lead, Passing}
use Rattle.curves.proofs.Heights.{zero-at, height-below}
use Rattle.curves.proofs.Leads.{lead-nonzero}
use Rattle.near.specs.Lists.{Task, polynomial, Wanted, IsList}
use Rattle.near.specs.Search.{found}
use Rattle.near.proofs.Messages.{polynomial-same, Numbering}
use Rattle.near.proofs.Lists.{in-at, ascending-once}
use Rattle.near.proofs.Agreements.{wanted-root}
use Rattle.near.proofs.search.Found.{found-list}

module _ {F : Field} (Φ : FieldLaws F) (task : Task F) (num : Numbering F task.p task.element)
    (points : Distinct F.ring task.n task.point) where
  abbrev R : Ring
  R = F.ring

  -- a nonzero curve of demand 2 whose weight is below m t
  module _ {m l w s : ℕ} {Q : Curve R} (pass : Passing R task.n m l task.point task.received Q) (lead : Lead R (task.k - 1) w s Q)
      (enough : w < m * task.t) where
    root : (g : Seq R) → Wanted task g → value (Series R) g (suc l) Q ≡ zero_s R
    root = wanted-root Φ task points pass lead enough

    pub search-is-list : (W : ℕ) → IsList task (found task (suc l) W Q)
    search-is-list W = found-list Φ task num (suc l) W Q pass.height root

    pub list-at-most : (list : List (List ℕ)) → IsList task list → length list ≤ l
    list-at-most list h =
        roots-at-most (series Φ.ring) l (length list) g Q some (height-below R pass.height)
        (polynomials-apart Φ (length list) task.k g (λ i k. (wanted i k).degree) different) (λ i k. root (g i) (wanted i k))
      where
        g : ℕ → Seq R
        g i = polynomial task (get_or list i [])

        wanted : (i : ℕ) → i < length list → Wanted task (g i)
        wanted i k = h.wanted (get_or list i []) (in-at list i k)

        some : Q ≢ zero_s (Series R)
        some z = lead-nonzero lead (λ j e. ap (λ (P : Curve R). P j e) z ∙ zero-at R j e)

        different : (i j : ℕ) → i < length list → j < length list → g i ≡ g j → i ≡ j
        different i j k q e =
            ascending-once list h.ascending i j k q
            (polynomial-same task num (get_or list i []) (get_or list j []) (h.spelt (get_or list i []) (in-at list i k))
            (h.spelt (get_or list j []) (in-at list j q)) e)
