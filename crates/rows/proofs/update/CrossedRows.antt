-- Two rows that an update crosses: what the update makes of them, that their weights are within the width, and the ratio of their leading
-- coefficients, as bytes.
use mathlib.Core.Path.{◌≡◌, ap, ap₂, ◌∙◌}
use mathlib.Core.Logic.{◌≢◌}
use mathlib.Core.List.{List}
use Prim.Native.Nat.{ℕ, ◌-◌, ◌*◌, ◌≤◌, ◌<◌, max}
use native.Mathlib.Omega.{arith}
use lib.ListN.{length, get_or}
use Rattle.field.specs.Field.{Ring, Field, FieldLaws}
use Rattle.field.specs.Symbols.{Element, symbols}
use Rattle.field.specs.Operations.{times_bytes, inv_byte}
use Rattle.field.proofs.OperationLaws.{symbol-inv_byte}
use Rattle.field.proofs.SymbolLaws.{symbols-field, byte-below}
use Rattle.curves.specs.Curves.{Curve, Under}
use Rattle.curves.specs.Turns.{cross, Due, ratio, update, updated}
use Rattle.curves.proofs.Leads.{lead-degree, lead-light}
use Rattle.curves.proofs.Updates.{Swapped, update_r, update-s, update-other, update-under}
use Rattle.rows.specs.Bytes.{place, rows_of}
use Rattle.rows.specs.Work.{Placed, Crosses, leads_ratio, updated_rows}
use Rattle.rows.specs.declared.Shape.{Shape}
use Rattle.rows.proofs.Placing.{place-inside, place-below, rows_of-at, light-curve}

module _ {S : Shape} {xs : List ℕ} {r w s v : ℕ} (x : Crosses S xs r w s v) where
  abbrev F : Field
  F = symbols S.p

  abbrev R : Ring
  R = F.ring

  abbrev rows : ℕ → Curve R
  rows = rows_of S xs

  abbrev c : Element S.p
  c = leads_ratio S xs r w s v

  abbrev new : ℕ → Curve R
  new = updated_rows S xs r w s v

  Φ : FieldLaws (symbols S.p)
  Φ = symbols-field S.p x.bytes.fine.size

  abbrev pub due : Due R S.u S.l r rows w s v
  due = record { inside = x.current; lead = x.lead_r; other = x.apart; below = x.lead_s }

  -- the update that is due, by the weights
  pub rule-update : updated F due ≡ new
  rule-update = ap₂ (λ a b. update F r s a b rows) (lead-degree x.lead_r) (lead-degree x.lead_s)

  pub crossed_r : new r ≡ cross R (v - w) (rows r) c (w - v) (rows s)
  crossed_r =
      rw rule-update at (update_r Φ due)
      ∙ ap (λ (c : Element S.p). cross R (v - w) (rows r) c (w - v) (rows s))
      (ap₂ (λ a b. ratio F s a b (rows r) (rows s)) (lead-degree x.lead_r) (lead-degree x.lead_s))

  pub crossed-s : Swapped R w v (rows r) (rows s) (new s)
  crossed-s = rw rule-update at (update-s Φ due)

  pub crossed-other : (i : ℕ) → i ≢ r → i ≢ s → new i ≡ rows i
  crossed-other = rw rule-update at (update-other Φ due)

  pub crossed-under : Under R S.u (max w v) s (new r)
  crossed-under = rw rule-update at (update-under Φ due)

  pub crosses-w : w ≤ S.width
  crosses-w = lead-light x.lead_r S.width (light-curve S xs x.current x.light_r)

  pub crosses-v : v ≤ S.width
  crosses-v = lead-light x.lead_s S.width (light-curve S xs x.other x.light_s)

  -- the leading coefficients and their ratio
  pub place_r : Placed S r s (w - S.u * s)
  place_r = let a = crosses-w in record { fine = x.bytes.fine; row = x.current; power = x.other; degree = omega arith }

  pub place-s : Placed S s s (v - S.u * s)
  place-s = let a = crosses-v in record { fine = x.bytes.fine; row = x.other; power = x.other; degree = omega arith }

  pub inside_r : place S r s (w - S.u * s) < length xs
  inside_r = omega (arith, place-inside S place_r.row place_r.power place_r.degree, x.bytes.room)

  pub inside-s : place S s s (v - S.u * s) < length xs
  inside-s = omega (arith, place-inside S place-s.row place-s.power place-s.degree, x.bytes.room)

  pub below_r : get_or xs (place S r s (w - S.u * s)) 0 < S.p
  below_r = place-below x.bytes place_r.row place_r.power place_r.degree

  pub below-s : get_or xs (place S s s (v - S.u * s)) 0 < S.p
  below-s = place-below x.bytes place-s.row place-s.power place-s.degree

  pub ratio-byte : times_bytes S.p (get_or xs (place S r s (w - S.u * s)) 0) (inv_byte S.p (get_or xs (place S s s (v - S.u * s)) 0))
      ≡ c.byte
  unfolding times_bytes ratio
  ratio-byte =
      rw (
        times_bytes,
        symbol-inv_byte,
        ← rows_of-at S xs place_r.row place_r.power place_r.degree,
        ← rows_of-at S xs place-s.row place-s.power place-s.degree,
        ratio,
      )

  pub ratio-below : c.byte < S.p
  ratio-below = byte-below x.bytes.fine.size c
