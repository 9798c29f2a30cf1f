-- What the inner functions of the rows ask and give, in terms of the curves that the bytes are.
--   Fine S              the numbers of an accepted request: p is listed, and they are small enough to count with
--   Placed S i j e      the coefficient of x^e y^j of row i has a place
--   Bytes S xs          room for the rows, with every coefficient below p
--   LightRow S xs i     no term of row i weighs more than the width
--   DegreeTo, Heavier   what the two parts of a search for the leading term say; IsDegree  what the first says of a degree
--   FoundLead           what a search for the leading term says
--   ZeroBetween xs a b  the bytes from a up to, not including, b are zero
--   SoundRow            what Sound says of row i
--   Crosses             rows r and s lead at the same power s of y, at weights w and v
--   leads_ratio         the leading coefficient of row r over that of row s; updated_rows  the rows after the update
--   delayed_byte        a coefficient of x^d times a slot; Slots, SlotVanishes  what the test of one slot for zero asks and says
--   Exchanges, Exchanged   what changing two runs of bytes asks and leaves
--   Ready note xs       the note and the rows of an accepted turn; Went  what it leaves
--   Whole S xs          rows of which each leads at its own power of y
--   HandsOver           what handing over a row asks: where it leads, and room for the curve
use Rattle.std.specs.Prelude.{◌≡◌, ◌⊎◌, Option, None, Some, MatchOption, List}
use Rattle.std.specs.Prelude.{ℕ, zero, suc, ◌+◌, ◌-◌, ◌*◌, ◌≤◌, ◌<◌, max, leb, length, get_or}
use Rattle.field.specs.Field.{Ring}
use Rattle.field.specs.Symbols.{Element, select, symbols}
use Rattle.field.specs.Operations.{minus_bytes, times_bytes, Listed}
use Rattle.field.specs.Kernels.{Region}
use Rattle.poly.specs.Limits.{field_most, width_most, height_most}
use Rattle.poly.specs.Lent.{Untouched}
use Rattle.curves.specs.Curves.{Curve, Height, Zero, Under, Lead, LeadsAt}
use Rattle.curves.specs.Turns.{ratio, update}
use Rattle.curves.specs.Entry.{Sound}
use Rattle.rows.specs.Bytes.{slot, rows_bytes, curve_bytes, rows_of, place}
use Rattle.rows.specs.Jobs.{BadNote, shape_of, Goes}
use Rattle.rows.specs.Jobs.{Turned}
use Rattle.rows.specs.declared.Shape.{Shape}
use Rattle.rows.specs.declared.Note.{Note}
use Rattle.rows.specs.declared.leading.LeadingTerm.{LeadingTerm}

pub record Fine (S : Shape) : Type 0 where
  pub size : Listed S.p
  pub lift : S.u < field_most
  pub wide : S.width ≤ width_most
  pub high : S.l ≤ height_most
  pub whole : S.u * S.l ≤ S.width

-- a coefficient that has a place
pub record Placed (S : Shape) (i j e : ℕ) : Type 0 where
  pub fine : Fine S
  pub row : i ≤ S.l
  pub power : j ≤ S.l
  pub degree : e ≤ S.width

pub record Bytes (S : Shape) (xs : List ℕ) : Type 0 where
  pub fine : Fine S
  pub room : rows_bytes S ≤ length xs
  pub below : (q : ℕ) → q < rows_bytes S → get_or xs q 0 < S.p

-- of the coefficients to x^top at `at` that of x^d is the last one that is not zero
pub record IsDegree (xs : List ℕ) (at top d : ℕ) : Type 0 where
  pub within : d ≤ top
  pub above : (i : ℕ) → d < i → i ≤ top → get_or xs (at + i) 0 ≡ 0
  pub nonzero : get_or xs (at + d) 0 ≡ 0 → ⊥

abbrev pub DegreeTo : List ℕ → ℕ → ℕ → Option ℕ → Type 0
DegreeTo xs at top found = MatchOption found ((i : ℕ) → i ≤ top → get_or xs (at + i) 0 ≡ 0) (IsDegree xs at top)

abbrev pub LightRow : Shape → List ℕ → ℕ → Type 0
LightRow S xs i = (j e : ℕ) → j ≤ S.l → e ≤ S.width → S.width < e + S.u * j → get_or xs (place S i j e) 0 ≡ 0

-- the heavier of a term and what was found; of equal weights what was found
pub data Heavier (term : LeadingTerm) : Option LeadingTerm → LeadingTerm → Type 0 where
  first : Heavier term None term
  stays : {lead : LeadingTerm} → term.weight ≤ lead.weight → Heavier term (Some lead) lead
  taken : {lead : LeadingTerm} → lead.weight < term.weight → Heavier term (Some lead) term

abbrev pub FoundLead : (R : Ring) → ℕ → Curve R → Option LeadingTerm → Type 0
FoundLead R u Q found = MatchOption found (Zero R Q) (λ term. Lead R u term.weight term.power Q)

abbrev pub ZeroBetween : List ℕ → ℕ → ℕ → Type 0
ZeroBetween xs a b = (q : ℕ) → a ≤ q → q < b → get_or xs q 0 ≡ 0

-- row i as it is to be while r is the current row
pub record SoundRow (R : Ring) (u W r i : ℕ) (Q : Curve R) : Type 0 where
  pub light : Under R u (suc W) zero Q
  pub nonzero : Zero R Q → ⊥
  pub height : Height R (suc (max i r)) Q
  pub own : i < r → LeadsAt R u i Q

pub record Crosses (S : Shape) (xs : List ℕ) (r w s v : ℕ) : Type 0 where
  pub bytes : Bytes S xs
  pub current : r ≤ S.l
  pub other : s ≤ S.l
  pub apart : s ≡ r → ⊥
  pub light_r : LightRow S xs r
  pub light_s : LightRow S xs s
  pub lead_r : Lead (symbols S.p).ring S.u w s (rows_of S xs r)
  pub lead_s : Lead (symbols S.p).ring S.u v s (rows_of S xs s)

-- both by the weights: at y^s a term of weight w has x^(w - u s)
abbrev pub leads_ratio : (S : Shape) → List ℕ → (r w s v : ℕ) → Element S.p
leads_ratio S xs r w s v = ratio (symbols S.p) s (w - S.u * s) (v - S.u * s) (rows_of S xs r) (rows_of S xs s)

abbrev pub updated_rows : (S : Shape) → List ℕ → (r w s v : ℕ) → ℕ → Curve (symbols S.p).ring
updated_rows S xs r w s v = update (symbols S.p) r s (w - S.u * s) (v - S.u * s) (rows_of S xs)

-- the coefficient of x^e in x^d times the x-polynomial at `at`
abbrev pub delayed_byte : List ℕ → ℕ → ℕ → ℕ → ℕ
delayed_byte xs at d e = select (leb d e) (get_or xs (at + (e - d)) 0) 0

-- a slot at a and one at b, and a factor
pub record Slots (S : Shape) (c a b : ℕ) (xs : List ℕ) : Type 0 where
  pub fine : Fine S
  pub factor : c < S.p
  pub first : Region S.p a (slot S) xs
  pub second : Region S.p b (slot S) xs

-- x^up times the slot at a, less c x^down times the slot at b, is zero
abbrev pub SlotVanishes : Shape → ℕ → ℕ → ℕ → ℕ → ℕ → List ℕ → Type 0
SlotVanishes S c a up b down xs =
    (e : ℕ) → e ≤ S.width → minus_bytes S.p (delayed_byte xs a up e) (times_bytes S.p c (delayed_byte xs b down e)) ≡ 0

pub record Exchanges (a b len : ℕ) (xs : List ℕ) : Type 0 where
  pub first : a + len ≤ length xs
  pub second : b + len ≤ length xs
  pub apart : (a + len ≤ b) ⊎ (b + len ≤ a)

-- the len bytes at a and those at b have changed places
pub record Exchanged (a b len : ℕ) (before after : List ℕ) : Type 0 where
  pub long : length after ≡ length before
  pub first : (i : ℕ) → i < len → get_or after (a + i) 0 ≡ get_or before (b + i) 0
  pub second : (i : ℕ) → i < len → get_or after (b + i) 0 ≡ get_or before (a + i) 0
  pub rest : (q : ℕ) → (q < a) ⊎ (a + len ≤ q) → (q < b) ⊎ (b + len ≤ q) → get_or after q 0 ≡ get_or before q 0

pub record Ready (note : Note) (xs : List ℕ) : Type 0 where
  pub good : BadNote note → ⊥
  pub bytes : Bytes (shape_of note) xs
  pub sound : Sound (symbols note.p).ring (note.k - 1) (shape_of note).width note.l note.r (rows_of (shape_of note) xs)

-- what an accepted turn leaves
pub record Went (note : Note) (allowance : ℕ) (before after : List ℕ) (back : Turned) : Type 0 where
  pub goes : Goes note allowance before after back
  pub rest : Untouched (rows_bytes (shape_of note)) before after

pub record Whole (S : Shape) (xs : List ℕ) : Type 0 where
  pub bytes : Bytes S xs
  pub sound : Sound (symbols S.p).ring S.u S.width S.l (suc S.l) (rows_of S xs)

pub record HandsOver (S : Shape) (xs : List ℕ) (row weight : ℕ) (curve : List ℕ) : Type 0 where
  pub bytes : Bytes S xs
  pub inside : row ≤ S.l
  pub lead : Lead (symbols S.p).ring S.u weight row (rows_of S xs row)
  pub light : weight ≤ S.width
  pub room : curve_bytes S ≤ length curve
