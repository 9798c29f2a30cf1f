-- Nobody is missing (propositions 5 and 6). At a place where g agrees, Q (x, g (x)) vanishes with the curve's multiplicity there; if these
-- add up to more than the curve's weight, they are more than its degree, and Q (x, g (x)) is zero.
use mathlib.Core.Path.{◌≡◌, refl, sym, ap, ◌∙◌}
use Prim.Native.Nat.{ℕ, zero, suc, ◌+◌, ◌-◌, ◌*◌, ◌≤◌, ◌<◌}
use native.Mathlib.Nat.{mul-zero, mul-add, mul-le-mul_left}
use native.Mathlib.Omega.{arith}
use Rattle.field.specs.Field.{Ring, RingLaws, Field, FieldLaws}
use Rattle.field.specs.Choices.{choose}
use Rattle.poly.specs.Polynomials.{Seq, zero_s, Series, Below, value}
use Rattle.poly.proofs.Series.{series}
use Rattle.poly.proofs.Bounds.{below-same}
use Rattle.poly.proofs.Evaluation.{value-more}
use Rattle.poly.proofs.Shift.{shift, shift-value, shift-any}
use Rattle.poly.proofs.Orders.{Ord}
use Rattle.poly.proofs.Degrees.{sum_below, sum_below-zero, sum_below-suc}
use Rattle.poly.proofs.CoprimePowers.{distinct-apart, orders-zero, Distinct}
use Rattle.curves.specs.Curves.{Curve, Finite, Under, Lead, Multiplicity, Passing}
use Rattle.curves.proofs.Leads.{under-mono}
use Rattle.curves.proofs.MovedCurves.{below-along, along}
use Rattle.curves.proofs.Multiplicities.{multiplicity_vanish}
use Rattle.curves.proofs.Weights.{below_graph}
use Rattle.near.specs.Lists.{Task, agreements, Wanted}

-- at one place: the order of Q (x, g (x)), whose degree is below W
module _ {R : Ring} (L : RingLaws R) {u W : ℕ} {Q : Curve R} (fin : Finite R Q) (light : Under R u W 0 Q) (N : ℕ) {g : Seq R}
    (short : Below R (suc u) g) where
  graph-order : (m : ℕ) (a v : R.Car) → Multiplicity R m fin.0 N a v Q → value R a (suc u) g ≡ v → Ord R m (shift R a W (value (Series R) g N Q))
  graph-order m a v mult on i l =
      ap (λ (f : Seq R). f i)
      (shift-any L a W (N * suc u + fin.0) (value (Series R) g N Q) (below_graph L u W N Q g short light)
      (below-same L (sym (shift-value (series L) g N Q)) (below-along L fin.0 (suc u) N Q g fin.1 short 0))
      ∙ ap (shift R a (N * suc u + fin.0)) (sym (shift-value (series L) g N Q)))
      ∙ along L (record { short = short; hits = λ s k. on }) 0 (omega arith) N Q fin m (multiplicity_vanish L m fin.0 N a v Q mult) 0 i
      (omega arith)

module _ {F : Field} (task : Task F) (g : Seq F.ring) where
  pub agreements-zero : agreements task 0 g ≡ 0
  unfolding agreements
  agreements-zero = refl

  -- whether g agrees at place s
  abbrev pub agrees? : (s : ℕ) → Dec (value F.ring (task.point s) task.k g ≡ task.received s)
  agrees? s = F.same? (value F.ring (task.point s) task.k g) (task.received s)

  pub agreements-suc : (n : ℕ) → agreements task (suc n) g ≡ agreements task n g + choose (agrees? n) 1 0
  unfolding agreements
  agreements-suc n = refl

  agreements-sum : (m n : ℕ) → sum_below n (λ s. m * choose (agrees? s) 1 0) ≡ m * agreements task n g
  agreements-sum m zero = sum_below-zero (λ s. m * choose (agrees? s) 1 0) ∙ rw agreements-zero (sym (mul-zero m))
  agreements-sum m (suc n) =
      rw (sum_below-suc n (λ s. m * choose (agrees? s) 1 0), agreements-sum m n, agreements-suc n)
      (sym (mul-add m (agreements task n g) (choose (agrees? n) 1 0)))

module _ {F : Field} (Φ : FieldLaws F) (task : Task F) (points : Distinct F.ring task.n task.point) where
  abbrev R : Ring
  R = F.ring

  abbrev L : RingLaws R
  L = Φ.ring

  -- a multiplicity for each place
  module _ {W : ℕ} {Q : Curve R} (fin : Finite R Q) (light : Under R (task.k - 1) W 0 Q) (N : ℕ) (ms : ℕ → ℕ)
      (mult : (s : ℕ) → s < task.n → Multiplicity R (ms s) fin.0 N (task.point s) (task.received s) Q) where
    pub nobody_missing : (g : Seq R) → Below R task.k g → W ≤ sum_below task.n (λ s. ms s * choose (agrees? task g s) 1 0)
        → value (Series R) g N Q ≡ zero_s R
    nobody_missing g short le =
        orders-zero L task.n W task.point (λ s. ms s * choose (agrees? task g s) 1 0) (value (Series R) g N Q)
        (distinct-apart Φ task.n task.point points)
        (below_graph L (task.k - 1) W N Q g wide light) le (λ s l. order s l (agrees? task g s))
      where
        wide : Below R (suc (task.k - 1)) g
        wide i l = short i (omega arith)

        order : (s : ℕ) → s < task.n → (d : Dec (value R (task.point s) task.k g ≡ task.received s))
            → Ord R (ms s * choose d 1 0) (shift R (task.point s) W (value (Series R) g N Q))
        order s l (yes e) i k =
            graph-order L fin light N wide (ms s) (task.point s) (task.received s) (mult s l)
            (value-more L (task.point s) task.k (suc (task.k - 1)) g short (omega arith) ∙ e) i (omega arith)
        order s l (no e) i k = absurd (omega arith)

  -- the curve vanishes along every wanted message, if m t is above its weight
  module _ {m l w s : ℕ} {Q : Curve R} (pass : Passing R task.n m l task.point task.received Q) (lead : Lead R (task.k - 1) w s Q)
      (enough : w < m * task.t) where
    pub wanted-root : (g : Seq R) → Wanted task g → value (Series R) g (suc l) Q ≡ zero_s R
    wanted-root g want =
        let e = agreements-sum task g m task.n in
        let le : m * task.t ≤ m * agreements task task.n g = mul-le-mul_left m want.agrees in
        nobody_missing pass.finite (under-mono R (task.k - 1) w (suc s) (suc w) 0 Q (omega arith) (λ q. absurd (omega arith)) lead.rest)
        (suc l) (λ s. m) pass.multiplicity g want.degree (omega arith)
