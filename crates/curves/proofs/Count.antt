-- How many updates there can be: P = w - u r - D falls with each update, or stays and s falls; and P > 0 until row r leads at y^r.
-- So P at the beginning, r times, bounds the updates while row r is the current one. An account adds this up over the rows: each update draws on it.
use mathlib.Core.Path.{◌≡◌, refl, ap}
use mathlib.Core.Logic.{◌⊎◌, inl, inr}
use Prim.Native.Nat.{ℕ, suc, ◌+◌, ◌-◌, ◌*◌, ◌≤◌, ◌<◌}
use native.Mathlib.Omega.{arith}
use native.Mathlib.Nat.{mul-le-mul}
use native.Mathlib.Decide.{dec_le}
use Rattle.field.specs.Field.{Ring, Field, FieldLaws}
use Rattle.curves.specs.Curves.{Curve, Zero, Lead, LeadsAt}
use Rattle.curves.specs.Start.{total}
use Rattle.curves.specs.Turns.{Due, updated, Outcome, Turn, finished, rises, pauses, updates, halts}
use Rattle.curves.specs.Entry.{Sound}
use Rattle.curves.proofs.Promises.{Fresh}
use Rattle.curves.proofs.Leads.{lead_unique, lead-nonzero, lead-within, lead-light}
use Rattle.curves.proofs.Formula.{total-le}
use Rattle.curves.proofs.Updates.{update-other}
use Rattle.curves.proofs.Entry.{sound-rises, sound-below, sound-update}
use Rattle.curves.proofs.CurrentRow.{Stage, stage-begins, stage-next, stage-potential}

-- what the rows 1 to r may cost
abbrev pub cost : (ℕ → ℕ) → ℕ → ℕ
cost b r = total r (λ i. i * b i)

-- `left` updates may still come, while row r leads at y^s and P is p; of `sum`, the cost of all rows, `part` is that of the rows up to r
record Account (r s p part sum left : ℕ) : Type 0 where
  busy : s < r → suc s + r * p + sum ≤ part + r + left
  done : s ≡ r → sum ≤ part + left

module _ {r s p part sum left : ℕ} (c : Account r s p part sum left) (l : s < r) (pos : 0 < p) where
  once : r * 1 ≤ r * p
  once = mul-le-mul {n₁ = r} {m₁ = 1} {n₂ = r} {m₂ = p} (omega arith) (omega arith)

  account_open : part ≤ sum → 0 < left
  account_open le = let b = c.busy l in omega (arith, once)

  account-next : {s' p' : ℕ} → p' ≤ p → (p ≤ p' → s' < s) → Account r s' p' part sum (left - 1)
  account-next {s'} {p'} le ties = let b = c.busy l in record { busy = λ x. go x b (dec_le p p'); done = λ x. omega (arith, once) }
    where
      go : s' < r → suc s + r * p + sum ≤ part + r + left → Dec (p ≤ p') → suc s' + r * p' + sum ≤ part + r + (left - 1)
      go x b (yes h) = let t = ties h in let y : r * p ≡ r * p' = ap (λ n. r * n) (omega arith) in omega arith
      go x b (no h) = let m : r * suc p' ≤ r * p = mul-le-mul {n₁ = r} {m₁ = suc p'} {n₂ = r} {m₂ = p} (omega arith) (omega arith) in omega arith

-- the state of the work from fresh rows, with `left` updates that may still come
module _ (R : Ring) (u W l : ℕ) (b : ℕ → ℕ) where
  -- row r is the current one, and leads at (w, s)
  record Busy (r left : ℕ) (rows : ℕ → Curve R) (w s : ℕ) : Type 0 where
    D : ℕ
    p : ℕ
    stage : Stage R u r w s D rows
    potential : p + (u * r + D) ≡ w
    fresh : (i : ℕ) → r < i → i ≤ l → Fresh R u W (b i) i (rows i)
    account : Account r s p (cost b r) (cost b l) left

  pub record Good (r left : ℕ) (rows : ℕ → Curve R) : Type 0 where
    pub inside : r ≤ suc l
    pub sound : Sound R u W l r rows
    busy : r ≤ l → (w : ℕ) × (s : ℕ) × Busy r left rows w s

module _ {F : Field} (Φ : FieldLaws F) where
  abbrev R : Ring
  R = F.ring

  module _ {u W l : ℕ} {b : ℕ → ℕ} {r left : ℕ} {rows : ℕ → Curve R} where
    -- the next row becomes the current one
    busy-begins : Sound R u W l r rows → ((i : ℕ) → r < i → i ≤ l → Fresh R u W (b i) i (rows i)) → cost b l ≤ cost b r + left → suc r ≤ l
        → (w : ℕ) × (s : ℕ) × Busy R u W l b (suc r) left rows w s
    unfolding total
    busy-begins g fresh pay h =
        let f = fresh (suc r) (omega arith) h in
        let (w, s, t) = stage-begins Φ g h f in
        let low = (stage-potential t).0 in
        let p : ℕ = w - (u * suc r + f.degree) in
        let light = lead-light t.lead (u * suc r + f.degree + b (suc r)) f.light in
        let m : suc r * p ≤ suc r * b (suc r) = mul-le-mul {n₁ = suc r} {m₁ = p} {n₂ = suc r} {m₂ = b (suc r)} (omega arith) (omega arith) in (
          w,
          s,
          record {
            D = f.degree;
            p = p;
            stage = t;
            potential = omega arith;
            fresh = λ i y z. fresh i (omega arith) z;
            account = record { busy = λ y. omega arith; done = λ y. omega arith };
          },
        )

    pub good-begins : Sound R u W l r rows → LeadsAt R u r (rows r) → r ≤ l → ((i : ℕ) → r < i → i ≤ l → Fresh R u W (b i) i (rows i))
        → cost b l ≤ cost b r + left → Good R u W l b (suc r) left rows
    good-begins g p h fresh pay = record { inside = omega arith; sound = sound-rises g p; busy = busy-begins g fresh pay }

    module _ (g : Good R u W l b r left rows) where
      busy-at : {w s : ℕ} → r ≤ l → Lead R u w s (rows r) → Busy R u W l b r left rows w s
      busy-at h p = let x = g.busy h in let e = lead_unique x.2.stage.lead p in rw (e.0, e.1) at x.2

      good-rises : r ≤ l → LeadsAt R u r (rows r) → Good R u W l b (suc r) left rows
      good-rises h p = let x = busy-at h p.1 in good-begins g.sound p h x.fresh (x.account.done refl)

      module _ {w s v : ℕ} (d : Due R u l r rows w s v) where
        -- there is an update left
        good_open : 0 < left
        good_open =
            let x = busy-at d.inside d.lead in
            let k = sound-below g.sound d in
            let q = x.potential in
            let pos = (stage-potential x.stage).1 k in
            account_open x.account k (omega arith) (total-le r l (λ i. i * b i) d.inside)

        good-next : (Zero R (updated F d r) → ⊥) × Good R u W l b r (left - 1) (updated F d)
        good-next =
            let x = busy-at d.inside d.lead in
            let k = sound-below g.sound d in
            let (w', s', t, f) = stage-next Φ g.sound d x.stage in
            let nonzero : Zero R (updated F d r) → ⊥ = lead-nonzero t.lead in
            let q = x.potential in
            let pos = (stage-potential x.stage).1 k in
            let low = (stage-potential t).0 in
            let f0 = f.0 in
            let D : ℕ = v - w + x.D in
            let p : ℕ = w' - (u * r + D) in (
              nonzero,
              record {
                inside = g.inside;
                sound = sound-update Φ g.sound d nonzero;
                busy = λ h. (
                  w',
                  s',
                  record {
                    D = D;
                    p = p;
                    stage = t;
                    potential = omega arith;
                    fresh = λ i a z. rw (update-other Φ d i (omega arith) (omega arith)) (x.fresh i a z);
                    account = account-next x.account k (omega arith) (omega arith) (λ z. f.1 (omega arith));
                  },
                );
              },
            )

-- all is finished, or the allowance a is spent and there is more to do
abbrev pub Spent : ℕ → ℕ → ℕ → ℕ → ℕ → Type 0
Spent l row made a left = (row ≡ suc l) ⊎ ((made ≡ a) × (0 < left))

pub spent-map : {l row n a m c left : ℕ} → (n ≡ a → m ≡ c) → Spent l row n a left → Spent l row m c left
spent-map f (inl e) = inl e
spent-map f (inr (e, z)) = inr (f e, z)

-- work that began at row r with `left` on the account, and had the allowance a
pub record Served (F : Field) (u W l : ℕ) (b : ℕ → ℕ) (r left a : ℕ) (o : Outcome F) : Type 0 where
  pub number : o.number ≡ 0
  pub onward : r ≤ o.row
  pub remains : ℕ
  pub count : o.updates + remains ≤ left
  pub good : Good F.ring u W l b o.row remains o.rows
  pub spent : Spent l o.row o.updates a remains

module _ {F : Field} (Φ : FieldLaws F) {u W l : ℕ} {b : ℕ → ℕ} where
  pub turn_serves : {r left a : ℕ} {rows : ℕ → Curve F.ring} {o : Outcome F} → Good F.ring u W l b r left rows → Turn F u l a rows r o
      → Served F u W l b r left a o
  turn_serves {left = left} g (finished h) =
      record { number = refl; onward = omega arith; remains = left; count = omega arith; good = g; spent = inl (omega arith) }
  turn_serves g (rises w h p t) =
      let y = turn_serves (good-rises Φ g h (w, p)) t in
      record { number = y.number; onward = omega arith; remains = y.remains; count = y.count; good = y.good; spent = y.spent }
  turn_serves {left = left} g (pauses {r = r} w s h p n) =
      let k = lead-within p (suc r) (g.sound.low r h (omega arith)) in
      let q = g.sound.own s (omega arith) (omega arith) in
      let o = good_open Φ g (record { inside = h; lead = p; other = n; below = q.1 }) in
      record { number = refl; onward = omega arith; remains = left; count = omega arith; good = g; spent = inr (refl, o) }
  turn_serves g (updates w s v d n t) =
      let k = good_open Φ g d in
      let y = turn_serves (good-next Φ g d).1 t in
      record {
        number = y.number;
        onward = y.onward;
        remains = y.remains;
        count = omega arith;
        good = y.good;
        spent = spent-map (ap suc) y.spent;
      }
  turn_serves g (halts w s v d z) = absurd ((good-next Φ g d).0 z)
