-- Rows 0 to l, of height at most l, and no row after them. A turn on such rows leaves such rows.
use mathlib.Core.Path.{◌≡◌}
use mathlib.Core.Logic.{inl, inr}
use Prim.Native.Nat.{ℕ, suc, ◌<◌}
use native.Mathlib.Omega.{arith}
use native.Mathlib.Decide.{ℕ_discrete}
use Rattle.field.specs.Field.{Ring, Field, FieldLaws}
use Rattle.curves.specs.Curves.{Curve, Height, Zero}
use Rattle.curves.specs.Turns.{Due, updated, Outcome, Turn, finished, rises, pauses, updates, halts}
use Rattle.curves.specs.Entry.{Sound}
use Rattle.curves.proofs.Updates.{Swapped, update-s, update-other, update-height}
use Rattle.curves.proofs.Entry.{sound-rises, sound-below, sound-update}

pub record Flat (R : Ring) (l : ℕ) (rows : ℕ → Curve R) : Type 0 where
  pub height : (i : ℕ) → Height R (suc l) (rows i)
  pub past : (i : ℕ) → l < i → Zero R (rows i)

module _ {F : Field} (Φ : FieldLaws F) {u l : ℕ} where
  pub update-flat : {r w s v : ℕ} {rows : ℕ → Curve F.ring} (d : Due F.ring u l r rows w s v) → s < r → Flat F.ring l rows
      → Flat F.ring l (updated F d)
  update-flat {r} {w} {s} {v} {rows} d k f =
      record {
        height = λ i. height i (ℕ_discrete i r) (ℕ_discrete i s) (update-s Φ d);
        past = λ i h. let x = d.inside in rw (update-other Φ d i (omega arith) (omega arith)) (f.past i h);
      }
    where
      height : (i : ℕ) → Dec (i ≡ r) → Dec (i ≡ s) → Swapped F.ring w v (rows r) (rows s) (updated F d s)
          → Height F.ring (suc l) (updated F d i)
      height i (yes e) n q = rw e (update-height Φ d (suc l) (f.height r) (f.height s))
      height i (no e) (no n) q = rw (update-other Φ d i e n) (f.height i)
      height i (no e) (yes n) (inl (h, q)) = rw (n, q) (f.height s)
      height i (no e) (yes n) (inr (h, q)) = rw (n, q) (f.height r)

  pub turn-flat : {W a r : ℕ} {rows : ℕ → Curve F.ring} {o : Outcome F} → Sound F.ring u W l r rows → Turn F u l a rows r o
      → Flat F.ring l rows → Flat F.ring l o.rows
  turn-flat g (finished h) f = f
  turn-flat g (rises w h p t) f = turn-flat (sound-rises g (w, p)) t f
  turn-flat g (pauses w s h p n) f = f
  turn-flat g (updates w s v d n t) f = turn-flat (sound-update Φ g d n) t (update-flat d (sound-below g d) f)
  turn-flat g (halts w s v d z) f = f
