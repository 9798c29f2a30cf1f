-- The search finds exactly the wanted messages, in ascending order, if the curve vanishes along each of them. By induction on the symbols
-- left: T is what the symbols chosen so far leave of Q, and every message that goes on from them and is a root passes the next test.
use mathlib.Core.Path.{◌≡◌, refl, sym, ap, ◌∙◌}
use mathlib.Core.List.Memᴰ
use mathlib.Core.List.{List, [], ◌∷◌, ◌++◌, append-nil}
use Prim.Native.Nat.{ℕ, zero, suc, ◌≤◌, ◌<◌}
use native.Mathlib.Omega.{arith}
use native.Mathlib.Decide.{dec_le}
use lib.ListN.{length}
use lib.Seq.{append_snoc}
use Rattle.field.specs.Field.{Ring, Field, FieldLaws}
use Rattle.field.specs.Choices.{choose}
use Rattle.poly.specs.Polynomials.{Seq, zero_s, Series, value}
use Rattle.curves.specs.Curves.{Curve, Height}
use Rattle.near.specs.Lists.{Task, polynomial, agreements, Spelt, In, Before, Ascending, Wanted, IsList}
use Rattle.near.specs.Search.{chosen, fits?, each, curve_left, level, opened, found}
use Rattle.near.proofs.Messages.{spelt-nil, spelt-cons, spell, polynomial_beyond, polynomial-append, Numbering}
use Rattle.near.proofs.Lists.{in-each, each_in, ascending-each, before-append}
use Rattle.near.proofs.search.Fitting.{root-fits, level-next, left-shift}

-- something only if the answer is yes
module _ {A : Type 0} where
  choose_in : (d : Dec A) {x : List ℕ} {l : List (List ℕ)} → In x (choose d l []) → A × In x l
  choose_in (yes a) h = (a, h)
  choose_in (no a) h = absurd (Memᴰ.not-nil h)

  in-choose : (d : Dec A) {x : List ℕ} {l : List (List ℕ)} → A → In x l → In x (choose d l [])
  in-choose (yes a) b h = h
  in-choose (no a) b h = absurd (a b)

  ascending-choose : (d : Dec A) (l : List (List ℕ)) → Ascending l → Ascending (choose d l [])
  ascending-choose (yes a) l h = h
  ascending-choose (no a) l h = tt

-- the clauses of `level`, as equations to rewrite by
module _ {F : Field} (task : Task F) (N W : ℕ) where
  pub level-zero : (x : List ℕ) (T : Curve F.ring)
      → level task N W zero x T ≡ choose (dec_le task.t (agreements task task.n (polynomial task x))) (x ∷ []) []
  unfolding level
  level-zero x T = refl

  -- what comes of trying c
  abbrev pub branch : ℕ → List ℕ → Curve F.ring → ℕ → List (List ℕ)
  branch left x T c = choose (fits? F N W (length x) T (task.element c)) (opened task N W left x T c) []

  pub level-suc : (left : ℕ) (x : List ℕ) (T : Curve F.ring) → level task N W (suc left) x T ≡ each task.p (branch left x T)
  unfolding level
  level-suc left x T = refl

module _ {F : Field} (Φ : FieldLaws F) (task : Task F) (num : Numbering F task.p task.element) where
  abbrev R : Ring
  R = F.ring

  module _ (N W : ℕ) where
    -- what is found begins with x, goes on with `left` symbols, and has the agreements
    record Goes (left : ℕ) (x z : List ℕ) : Type 0 where
      after : List ℕ
      is : z ≡ x ++ after
      spelt : Spelt task.p left after
      agrees : task.t ≤ agreements task task.n (polynomial task z)

    goes-cons : {left : ℕ} {x z : List ℕ} (c : ℕ) → c < task.p → Goes left (x ++ (c ∷ [])) z → Goes (suc left) x z
    goes-cons {left} {x} c l g =
        record { after = c ∷ g.after; is = g.is ∙ append_snoc x c g.after; spelt = spelt-cons l g.spelt; agrees = g.agrees }

    level-goes : (left : ℕ) (x : List ℕ) (T : Curve R) (z : List ℕ) → In z (level task N W left x T) → Goes left x z
    level-goes zero x T z h =
        let a = choose_in (dec_le task.t (agreements task task.n (polynomial task x))) (rw (level-zero task N W x T) at h) in
        let e : z ≡ x = Memᴰ.eq_of_singleton a.1 in
        record { after = []; is = e ∙ sym (append-nil x); spelt = spelt-nil; agrees = rw e a.0 }
    level-goes (suc left) x T z h =
        let a = each_in task.p (branch task N W left x T) (rw (level-suc task N W left x T) at h) in
        let c : ℕ = a.0 in
        goes-cons c a.1 (level-goes left (x ++ (c ∷ [])) (chosen R N (length x) (task.element c) T) z
        (choose_in (fits? F N W (length x) T (task.element c)) a.2).1)

    level-ascending : (left : ℕ) (x : List ℕ) (T : Curve R) → Ascending (level task N W left x T)
    level-ascending zero x T =
        rw (level-zero task N W x T) (ascending-choose (dec_le task.t (agreements task task.n (polynomial task x))) (x ∷ [])
        ((λ y h. absurd (Memᴰ.not-nil h)), tt))
    level-ascending (suc left) x T =
        rw (level-suc task N W left x T)
        (ascending-each task.p (branch task N W left x T)
        (λ c. ascending-choose (fits? F N W (length x) T (task.element c)) (opened task N W left x T c)
        (level-ascending left (x ++ (c ∷ [])) (chosen R N (length x) (task.element c) T)))
        (λ b c y z l hy hz. order b c y z l (begins b y hy) (begins c z hz)))
      where
        begins : (c : ℕ) (z : List ℕ) → In z (branch task N W left x T c) → Goes left (x ++ (c ∷ [])) z
        begins c z h =
            level-goes left (x ++ (c ∷ [])) (chosen R N (length x) (task.element c) T) z
            (choose_in (fits? F N W (length x) T (task.element c)) h).1

        order : (b c : ℕ) (y z : List ℕ) → b < c → Goes left (x ++ (b ∷ [])) y → Goes left (x ++ (c ∷ [])) z → Before y z
        order b c y z l g h = rw (g.is, h.is, append_snoc x b g.after, append_snoc x c h.after) (before-append x g.after h.after l)

    -- a root of Q that begins with x and has the agreements is found
    level-all : {Q : Curve R} → Height R N Q → (left : ℕ) (x y : List ℕ) → Spelt task.p left y
        → value (Series R) (polynomial task (x ++ y)) N Q ≡ zero_s R
        → task.t ≤ agreements task task.n (polynomial task (x ++ y)) → In (x ++ y) (level task N W left x (curve_left task N [] x Q))
    level-all {Q} tall zero x [] s root le =
        rw (level-zero task N W x (curve_left task N [] x Q))
        (in-choose (dec_le task.t (agreements task task.n (polynomial task x))) (rw (append-nil x) at le) (Memᴰ.head (append-nil x)))
    level-all tall zero x (c ∷ y) s root le = let e = s.long in absurd (omega arith)
    level-all tall (suc left) x [] s root le = let e = s.long in absurd (omega arith)
    level-all {Q} tall (suc left) x (c ∷ y) s root le =
        rw (level-suc task N W left x (curve_left task N [] x Q))
        (in-each task.p (branch task N W left x (curve_left task N [] x Q)) (s.small 0 (omega arith))
        (in-choose (fits? F N W (length x) (curve_left task N [] x Q) (task.element c))
        (rw (left-shift Φ task num N Q tall x)
        (root-fits Φ N W (polynomial task x) (polynomial task (c ∷ y)) (length x) Q (rw (← polynomial-append Φ task num x (c ∷ y)) root)))
        (rw (level-next task N W left x c Q, ← append_snoc x c y)
        (level-all tall left (x ++ (c ∷ [])) y (record {
          long = let e = s.long in omega arith;
          small = λ i l. s.small (suc i) (omega arith);
        })
        (rw (append_snoc x c y) root) (rw (append_snoc x c y) le)))))

    -- the list, if Q vanishes along every wanted message
    pub found-list : (Q : Curve R) → Height R N Q → ((g : Seq R) → Wanted task g → value (Series R) g N Q ≡ zero_s R)
        → IsList task (found task N W Q)
    unfolding curve_left
    found-list Q tall roots =
        record {
          ascending = level-ascending task.k [] Q;
          spelt = spelt;
          wanted =
              λ x h. record {
                degree = λ i l. let e = (spelt x h).long in polynomial_beyond task num x i (omega arith);
                agrees = (level-goes task.k [] Q x h).agrees;
              };
          all = all;
        }
      where
        spelt : (x : List ℕ) → In x (found task N W Q) → Spelt task.p task.k x
        spelt x h = let g = level-goes task.k [] Q x h in rw g.is g.spelt

        all : (g : Seq R) → Wanted task g → (x : List ℕ) × In x (found task N W Q) × (polynomial task x ≡ g)
        all g want =
            let x = spell task num task.k g want.degree in (
              x.0,
              level-all tall task.k [] x.0 x.1 (ap (λ (f : Seq R). value (Series R) f N Q) x.2
                  ∙ roots g want) (rw x.2 want.agrees),
              x.2,
            )
