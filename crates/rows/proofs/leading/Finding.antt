-- The search for a leading term, by falling powers of y: what was found down to y^j leads what stands from y^j on.
use mathlib.Core.Path.{◌≡◌, refl}
use mathlib.Core.Logic.{◌≢◌}
use mathlib.Core.List.{List}
use Prim.Native.Nat.{ℕ, zero, suc, ◌+◌, ◌-◌, ◌*◌, ◌≤◌, ◌<◌, zero-le}
use native.Mathlib.Decide.{dec_le, ℕ_discrete}
use native.Mathlib.Omega.{arith}
use lib.ListN.{get_or}
use Rattle.std.specs.Prelude.{Option, Some, None, IsSome, MatchOption}
use Rattle.field.specs.Field.{Ring}
use Rattle.field.specs.Symbols.{symbol, symbols}
use Rattle.curves.specs.Curves.{Curve, Zero, Lead, LeadsAt}
use Rattle.curves.specs.Entry.{Sound}
use Rattle.curves.proofs.Leads.{lead_unique}
use Rattle.rows.specs.Bytes.{slot, curve_bytes, rows_of, place}
use Rattle.rows.specs.Work.{Bytes, LightRow, Heavier, first, stays, taken, IsDegree, FoundLead}
use Rattle.rows.specs.declared.Shape.{Shape}
use Rattle.rows.specs.declared.leading.LeadingTerm.{LeadingTerm}
use Rattle.rows.proofs.Placing.{light-row, lift-inside, rows_of-zero, rows_of-null}

module _ (R : Ring) (u : ℕ) (Q : Curve R) where
  open R use {𝟘}

  -- of the terms from y^j on, the one of weight w and power s leads
  pub record LeadFrom (j w s : ℕ) : Type 0 where
    pub inside : j ≤ s
    pub degree : ℕ
    pub weight : degree + u * s ≡ w
    pub nonzero : Q s degree ≢ 𝟘
    pub rest : (t i : ℕ) → j ≤ t → w ≤ i + u * t → (i + u * t ≤ w → suc s ≤ t) → Q t i ≡ 𝟘

  abbrev pub FoundFrom : ℕ → Option LeadingTerm → Type 0
  FoundFrom j found = MatchOption found ((t i : ℕ) → j ≤ t → Q t i ≡ 𝟘) (λ term. LeadFrom j term.weight term.power)

  pub found-all : (found : Option LeadingTerm) → FoundFrom zero found → FoundLead R u Q found
  found-all None f = λ t i. f t i zero-le
  found-all (Some term) f =
      record { degree = f.degree; weight = f.weight; nonzero = f.nonzero; rest = λ t i. f.rest t i zero-le }

  -- a search in a curve that is not zero finds its leading term
  pub found-some : (found : Option LeadingTerm) → FoundLead R u Q found → (Zero R Q → ⊥) → IsSome found
  found-some None f n = absurd (n f)
  found-some (Some term) f n = refl

  -- what was found still leads where it is larger than all of one power of y more
  keeps : {j w s : ℕ} → LeadFrom (suc j) w s → ((i : ℕ) → w < i + u * j → Q j i ≡ 𝟘) → LeadFrom j w s
  keeps {j} {w} {s} d beyond =
      let k = d.inside in
      record {
        inside = omega arith;
        degree = d.degree;
        weight = d.weight;
        nonzero = d.nonzero;
        rest = λ t i h l q. rest t i h l q (ℕ_discrete t j);
      }
    where
      rest : (t i : ℕ) → j ≤ t → w ≤ i + u * t → (i + u * t ≤ w → suc s ≤ t) → Dec (t ≡ j) → Q t i ≡ 𝟘
      rest t i h l q (yes k) = rw k (beyond i (over (rw k at l) (rw k at q) (dec_le (i + u * j) w)))
        where
          over : w ≤ i + u * j → (i + u * j ≤ w → suc s ≤ j) → Dec (i + u * j ≤ w) → w < i + u * j
          over l q (yes m) = let z = q m in let y = d.inside in absurd (omega arith)
          over l q (no m) = omega arith
      rest t i h l q (no k) = d.rest t i (omega arith) l q

  -- a power of y whose x-polynomial is zero changes nothing
  pub found-past : {j : ℕ} (found : Option LeadingTerm) → FoundFrom (suc j) found → ((e : ℕ) → Q j e ≡ 𝟘) → FoundFrom j found
  found-past {j} None f all = λ t i h. go t i h (ℕ_discrete t j)
    where
      go : (t i : ℕ) → j ≤ t → Dec (t ≡ j) → Q t i ≡ 𝟘
      go t i h (yes k) = rw k (all i)
      go t i h (no k) = f t i (omega arith)
  found-past (Some term) f all = keeps f (λ i _. all i)

  -- one power of y more, of whose x-polynomial the degree is d
  module _ {j d : ℕ} (above : (e : ℕ) → d < e → Q j e ≡ 𝟘) (last : Q j d ≢ 𝟘) where
    -- its largest term leads where all that stood above it is lighter
    takes : ((t i : ℕ) → suc j ≤ t → d + u * j ≤ i + u * t → Q t i ≡ 𝟘) → LeadFrom j (d + u * j) j
    takes less =
        record {
          inside = omega arith;
          degree = d;
          weight = refl;
          nonzero = last;
          rest = λ t i m l q. rest t i m l q (ℕ_discrete t j);
        }
      where
        rest : (t i : ℕ) → j ≤ t → d + u * j ≤ i + u * t → (i + u * t ≤ d + u * j → suc j ≤ t) → Dec (t ≡ j) → Q t i ≡ 𝟘
        rest t i m l q (yes e) = rw e (above i (over (rw e at l) (rw e at q) (dec_le (i + u * j) (d + u * j))))
          where
            over : d + u * j ≤ i + u * j → (i + u * j ≤ d + u * j → suc j ≤ j) → Dec (i + u * j ≤ d + u * j) → d < i
            over l q (yes x) = let y = q x in absurd (omega arith)
            over l q (no x) = omega arith
        rest t i m l q (no e) = less t i (omega arith) l

    pub found-more : (found : Option LeadingTerm) {r : LeadingTerm} → FoundFrom (suc j) found
        → Heavier (record { weight = d + u * j; power = j }) found r → LeadFrom j r.weight r.power
    found-more None f first = takes (λ t i m l. f t i m)
    found-more (Some term) f (stays h) = keeps f (λ i l. above i (omega arith))
    found-more (Some term) f (taken h) = takes (λ t i m l. f.rest t i m (omega arith) (λ y. absurd (omega arith)))

-- the degree of a slot, said of the curve
module _ {S : Shape} {xs : List ℕ} {i j : ℕ} (b : Bytes S xs) (light : LightRow S xs i) (g : i ≤ S.l) (h : j ≤ S.l) where
  abbrev at : ℕ
  at = i * curve_bytes S + j * slot S

  abbrev top : ℕ
  top = S.width - S.u * j

  -- the terms above the width are zero anyhow
  slot-zeros : (e : ℕ) → (e ≤ top → get_or xs (at + e) 0 ≡ 0) → rows_of S xs i j e ≡ symbol S.p 0
  slot-zeros e zeros = rows_of-null S xs g j e (λ _ k. go k (dec_le e top))
    where
      go : e ≤ S.width → Dec (e ≤ top) → get_or xs (place S i j e) 0 ≡ 0
      go k (yes m) = zeros m
      go k (no m) = let z = lift-inside b.fine h in light j e h k (omega arith)

  pub slot-zero : ((e : ℕ) → e ≤ top → get_or xs (at + e) 0 ≡ 0) → (e : ℕ) → rows_of S xs i j e ≡ symbol S.p 0
  slot-zero zeros e = slot-zeros e (zeros e)

  module _ {d : ℕ} (degree : IsDegree xs at top d) where
    pub slot-above : (e : ℕ) → d < e → rows_of S xs i j e ≡ symbol S.p 0
    slot-above e l = slot-zeros e (degree.above e l)

    pub slot-last : rows_of S xs i j d ≢ symbol S.p 0
    slot-last z = let m = degree.within in degree.nonzero (rows_of-zero b g h (omega arith) z)

-- the term that leads, where its power of y is known
pub lead-own : {R : Ring} {u w p s : ℕ} {Q : Curve R} → Lead R u w p Q → LeadsAt R u s Q → Lead R u w s Q
lead-own lead (v, own) = rw (lead_unique lead own).1 at lead

-- what a search in a row of a turn under way asks
pub searched : {S : Shape} {xs : List ℕ} {r i : ℕ} → Bytes S xs → Sound (symbols S.p).ring S.u S.width S.l r (rows_of S xs) → i ≤ S.l
    → (i ≤ S.l) × LightRow S xs i
searched b s h = (h, light-row b h (s.light _ h))
