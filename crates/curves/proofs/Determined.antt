-- The rule fixes what a turn leaves; and of a turn that comes to the end of the rows whatever its allowance is, once it is enough.
use mathlib.Core.Path.{◌≡◌, refl, sym, ap}
use Prim.Native.Nat.{ℕ, suc, ◌+◌, ◌*◌}
use native.Mathlib.Omega.{arith}
use Rattle.field.specs.Field.{Ring, Field}
use Rattle.curves.specs.Curves.{Curve}
use Rattle.curves.specs.Turns.{Due, update, updated, Outcome, counted, Turn, finished, rises, pauses, updates, halts}
use Rattle.curves.proofs.Leads.{lead_unique}
use native.Mathlib.Nat.{add_comm, suc-add}

due_unique : {R : Ring} {u l r : ℕ} {rows : ℕ → Curve R} {w s v w' s' v' : ℕ} → Due R u l r rows w s v → Due R u l r rows w' s' v'
    → (w ≡ w') × (s ≡ s') × (v ≡ v')
due_unique d e = let x = lead_unique d.lead e.lead in (x.0, x.1, (lead_unique (rw x.1 at d.below) e.below).0)

-- two updates that are due are the same one
update-same : (F : Field) (r : ℕ) (rows : ℕ → Curve F.ring) {s s' a a' b b' : ℕ} → s ≡ s' → a ≡ a' → b ≡ b'
    → update F r s a b rows ≡ update F r s' a' b' rows
update-same F r rows p q t = rw (p, q, t) refl

updated_unique : (F : Field) {u l r : ℕ} {rows : ℕ → Curve F.ring} {w s v w' s' v' : ℕ} (d : Due F.ring u l r rows w s v)
    (e : Due F.ring u l r rows w' s' v') → updated F d ≡ updated F e
updated_unique F {u} {r = r} {rows = rows} d e =
    let (i, j, k) = due_unique d e in
    let m = ap (λ n. u * n) j in
    let a = d.lead.weight in
    let b = e.lead.weight in
    let c = d.below.weight in
    let f = e.below.weight in
    update-same F r rows j (omega arith) (omega arith)

module _ {F : Field} {u l : ℕ} where
  pub rule_determined : {a : ℕ} {rows : ℕ → Curve F.ring} {r : ℕ} {o p : Outcome F} → Turn F u l a rows r o → Turn F u l a rows r p → o ≡ p
  rule_determined (finished h) (finished k) = refl
  rule_determined (finished h) (rises w k x t) = absurd (omega arith)
  rule_determined (finished h) (pauses w s k x n) = absurd (omega arith)
  rule_determined (finished h) (updates w s v d n t) = let k = d.inside in absurd (omega arith)
  rule_determined (finished h) (halts w s v d z) = let k = d.inside in absurd (omega arith)
  rule_determined (rises w h x t) (finished k) = absurd (omega arith)
  rule_determined (rises w h x t) (rises v k y q) = rule_determined t q
  rule_determined (rises w h x t) (pauses v s k y n) = absurd (n (sym (lead_unique x y).1))
  rule_determined (rises w h x t) (updates v s z d n q) = absurd (d.other (sym (lead_unique x d.lead).1))
  rule_determined (rises w h x t) (halts v s z d n) = absurd (d.other (sym (lead_unique x d.lead).1))
  rule_determined (pauses w s h x n) (finished k) = absurd (omega arith)
  rule_determined (pauses w s h x n) (rises v k y q) = absurd (n (lead_unique x y).1)
  rule_determined (pauses w s h x n) (pauses v z k y m) = refl
  rule_determined (updates w s v d n t) (finished k) = let h = d.inside in absurd (omega arith)
  rule_determined (updates w s v d n t) (rises x k y q) = absurd (d.other (lead_unique d.lead y).1)
  rule_determined (updates w s v d n t) (updates x y z e m q) =
      ap (counted F) (rule_determined t (rw (← updated_unique F d e) at q))
  rule_determined (updates w s v d n t) (halts x y z e m) = absurd (n (rw (← updated_unique F d e) at m))
  rule_determined (halts w s v d n) (finished k) = let h = d.inside in absurd (omega arith)
  rule_determined (halts w s v d n) (rises x k y q) = absurd (d.other (lead_unique d.lead y).1)
  rule_determined (halts w s v d n) (updates x y z e m q) = absurd (m (rw (updated_unique F d e) at n))
  rule_determined (halts w s v d n) (halts x y z e m) = refl

  -- once the end of the rows is reached the allowance does not matter
  turn-more : {a r : ℕ} {rows : ℕ → Curve F.ring} {o : Outcome F} (c : ℕ) → Turn F u l a rows r o → o.row ≡ suc l → Turn F u l (a + c) rows r o
  turn-more c (finished h) e = finished h
  turn-more c (rises w h x t) e = rises w h x (turn-more c t e)
  turn-more c (pauses w s h x n) e = absurd (omega arith)
  turn-more c (updates {a = a} w s v d n t) e = rw (suc-add a c) (updates w s v d n (turn-more c t e))
  turn-more c (halts w s v d z) e = let h = d.inside in absurd (omega arith)

  pub end_determined : {a b r : ℕ} {rows : ℕ → Curve F.ring} {o p : Outcome F} → Turn F u l a rows r o → o.row ≡ suc l → Turn F u l b rows r p
      → p.row ≡ suc l → o ≡ p
  end_determined {a} {b} t e q f = rule_determined (turn-more b t e) (rw (add_comm a b) (turn-more a q f))
