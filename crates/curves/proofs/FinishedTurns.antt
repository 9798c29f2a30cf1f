-- A turn that comes to the end of the rows: of the rows only those up to l matter.
use mathlib.Core.Path.{◌≡◌, refl, ap}
use Prim.Native.Nat.{ℕ, suc, ◌≤◌}
use native.Mathlib.Omega.{arith}
use Rattle.field.specs.Field.{Field, FieldLaws}
use Rattle.field.specs.Choices.{put}
use Rattle.curves.specs.Curves.{Curve}
use Rattle.curves.specs.Turns.{update, Outcome, stops, counted, Turn, finished, rises, pauses, updates, halts}
use Rattle.curves.specs.Entry.{Sound}
use Rattle.curves.proofs.Leads.{lead_of}
use Rattle.curves.proofs.Entry.{sound-rises, sound-below, sound-update}

update_alike : (F : Field) (l : ℕ) {r s : ℕ} (a b : ℕ) {rows new : ℕ → Curve F.ring} → r ≤ l → s ≤ l → ((i : ℕ) → i ≤ l → new i ≡ rows i)
    → (i : ℕ) → i ≤ l → update F r s a b new i ≡ update F r s a b rows i
unfolding update put
update_alike F l {r} {s} a b h k same i x = rw (same r h, same s k, same i x)

module _ {F : Field} (Φ : FieldLaws F) {u W l : ℕ} where
  pub end_alike : {a r : ℕ} {rows new : ℕ → Curve F.ring} {o : Outcome F} → Sound F.ring u W l r rows → ((i : ℕ) → i ≤ l → new i ≡ rows i)
      → Turn F u l a rows r o → o.row ≡ suc l
      → (p : Outcome F) × Turn F u l a new r p × (p.row ≡ suc l) × (p.updates ≡ o.updates)
  end_alike {r = r} {new = new} g same (finished h) e = (stops F 0 new r, finished h, e, refl)
  end_alike {r = r} {new = new} g same (rises w h x t) e =
      let (p, q, i, j) = end_alike (sound-rises g (w, x)) same t e in (p, rises {rows = new} {r = r} w h (rw (same r h) x) q, i, j)
  end_alike g same (pauses w s h x n) e = absurd (omega arith)
  end_alike {r = r} {new = new} g same (updates w s v d n t) e =
      let h = d.inside in
      let k = sound-below g d in
      let alike = update_alike F l {s = s} d.lead.degree d.below.degree h (omega arith) same in
      let (p, q, i, j) = end_alike (sound-update Φ g d n) alike t e in (
        counted F p,
        updates {rows = new} w s v
            (record { inside = h; lead = lead_of d.lead (same r h); other = d.other; below = lead_of d.below (same s (omega arith)) })
            (λ z. n (rw (alike r h) at z)) q,
        i,
        ap suc j,
      )
  end_alike g same (halts w s v d z) e = let h = d.inside in absurd (omega arith)
