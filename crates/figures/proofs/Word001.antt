-- The word 0, 0, 1 at the points 1, 2, 3: row 1, y - h, leads at y^0 with weight 2, row 0 with weight 3. After one update, by which the two
-- change places, row 1 leads at y.
use mathlib.Core.Path.{◌≡◌, refl, ap}
use mathlib.Core.Logic.{◌↔◌}
use mathlib.Core.List.{List, [], ◌∷◌, ◌++◌}
use Prim.Native.Nat.{ℕ, zero, suc, ◌≤◌}
use native.Mathlib.Decide.{dec_le, ℕ_discrete}
use native.Mathlib.Omega.{arith}
use Rattle.field.specs.Field.{Ring, pow, prod, Field}
use Rattle.field.specs.Symbols.{Element, symbol, symbols, sum_of, product_of, negative_of, inverse_of, same_symbol, symbols_of}
use Rattle.field.specs.Choices.{put}
use Rattle.poly.specs.Polynomials.{Seq, zero_s, one_s, add_s, neg_s, scale_s, mul_s, cons_s, const_s, x_s, lin, value, mono}
use Rattle.poly.proofs.CoprimePowers.{distinct-apart}
use Rattle.poly.proofs.Interpolation.{interpolant_unique}
use Rattle.curves.specs.Curves.{Curve, Zero, Lead}
use Rattle.curves.specs.Start.{start_row, total}
use Rattle.curves.specs.Turns.{cross, Due, ratio, update, updated, stops, Turn, finished, rises, updates}
use Rattle.curves.specs.Entry.{Sound}
use Rattle.curves.specs.Finish.{monic}
use Rattle.curves.proofs.Leads.{lead-degree, lead_of, seek, look, pick, lead-found}
use Rattle.curves.proofs.Entry.{sound-update}
use Rattle.curves.proofs.Updates.{update-lead}
use Rattle.curves.proofs.Least.{lightest-one, lightest-stays}
use Rattle.curves.proofs.StartRows.{start-first, start-sound}
use Rattle.rows.specs.Bytes.{HoldsCurve}
use Rattle.rows.specs.Demands.{Request, shape_for, updates_bound}
use Rattle.figures.specs.Figures.{three, at_three, word_0_0_1}
use Rattle.figures.proofs.Computed.{seven-laws, three-distinct, through, holds-curve}
use Rattle.figures.proofs.Calls.{Interpolates, start_for, AtStart, Worked}

abbrev F : Field
F = symbols 7

abbrev R : Ring
R = F.ring

abbrev q : Request
q = at_three word_0_0_1 1

abbrev pub h : Seq R
h = symbols_of 7 (1 ∷ 2 ∷ 4 ∷ [])

thr : Interpolates q h
unfolding symbol sum_of product_of value
thr = through three word_0_0_1 (1 ∷ 2 ∷ 4 ∷ []) refl tt

pub h-is : (g : Seq R) → Interpolates q g ↔ (g ≡ h)
h-is g = (
  λ also. interpolant_unique seven-laws.ring 3 (symbols_of 7 three) (symbols_of 7 word_0_0_1) g h
      (distinct-apart seven-laws 3 (symbols_of 7 three) three-distinct) also thr,
  λ e. rw e thr,
)

abbrev start : ℕ → Curve R
start = start_for q h

sound : Sound R 1 3 1 1 start
sound = start-sound seven-laws 1 thr 2 1 (omega arith) (omega arith) (omega arith)

lead : Lead R 1 2 0 (start 1)
unfolding symbol sum_of product_of negative_of same_symbol pow prod zero_s one_s add_s neg_s mul_s cons_s const_s x_s lin start_row seek look pick dec_le
    ℕ_discrete
lead = lead-found F 1 (start 1) 2 4 (sound.low 1 (omega arith) (omega arith)) (sound.light 1 (omega arith)) refl

-- row 1 leads at x^2, row 0 at x^3
abbrev new : (ℕ → Curve R) → ℕ → Curve R
new = update F 1 0 2 3

module _ (rows : ℕ → Curve R) (at : AtStart q h rows) where
  due : Due R 1 1 1 rows 2 0 3
  due =
      record {
        inside = omega arith;
        lead = lead_of lead (at 1 (omega arith));
        other = λ e. omega arith;
        below = lead_of (start-first seven-laws 1 thr 1) (at 0 (omega arith));
      }

  due-new : updated F due ≡ new rows
  due-new = rw (lead-degree due.lead, lead-degree due.below) refl

  new-same : new rows 1 ≡ new start 1
  unfolding put update dec_le ℕ_discrete
  new-same = rw (at 0 (omega arith), at 1 (omega arith))

-- its coefficient of x y is 1
new-nonzero : Zero R (new start 1) → ⊥
unfolding symbol sum_of product_of negative_of inverse_of pow prod zero_s one_s add_s neg_s scale_s mul_s cons_s const_s x_s lin start_row mono put cross ratio
    update dec_le ℕ_discrete
new-nonzero z = let e : ◌≡◌ {A = ℕ} 1 0 = ap (λ (x : Element 7). x.byte) (z 1 1) in omega arith

new-sound : Sound R 1 3 1 1 (new start)
new-sound =
    let is = due-new start (λ i k. refl) in
    rw is at (sound-update seven-laws sound (due start (λ i k. refl)) (rw is new-nonzero))

new-leads : Lead R 1 2 1 (new start 1)
unfolding symbol sum_of product_of negative_of inverse_of same_symbol pow prod zero_s one_s add_s neg_s scale_s mul_s cons_s const_s x_s lin start_row mono put
    cross ratio update seek look pick dec_le ℕ_discrete
new-leads = lead-found F 1 (new start 1) 2 4 (new-sound.low 1 (omega arith) (omega arith)) (new-sound.light 1 (omega arith)) refl

pub formula-is-one : updates_bound q ≡ 1
unfolding total
formula-is-one = refl

module _ (rows : ℕ → Curve R) (at : AtStart q h rows) where
  lead_1 : Lead R 1 2 1 (new rows 1)
  lead_1 = rw (new-same rows at) new-leads

  turn : (a : ℕ) → 1 ≤ a → Turn F 1 1 a rows 1 (record { number = 0; rows = new rows; row = 2; updates = 1 })
  turn zero le = absurd (omega arith)
  turn (suc a) le =
      let is = due-new rows at in
      updates {a = a} {o = stops F 0 (new rows) 2} 2 0 3 (due rows at) (rw (is, new-same rows at) new-nonzero)
      (rw is (rises {r = 1} 2 (omega arith) lead_1 (finished {r = 2} (omega arith))))

abbrev bytes : List ℕ
bytes = (2 ∷ 4 ∷ 1 ∷ 0 ∷ []) ++ (5 ∷ 0 ∷ 0 ∷ 0 ∷ [])

abbrev curve : Curve R
curve = monic F 0 2 (new start 0)

holds : HoldsCurve (shape_for q) bytes curve
unfolding symbol sum_of product_of negative_of inverse_of pow prod zero_s one_s add_s neg_s scale_s mul_s cons_s const_s x_s lin start_row mono put cross ratio
    update dec_le ℕ_discrete
holds = holds-curve (shape_for q) curve bytes tt

pub worked_0_0_1 : Worked q 1 0 2 bytes
worked_0_0_1 =
    record {
      h = h;
      through = thr;
      left = new;
      turn = λ a le rows at. turn rows at a (rw formula-is-one at le);
      lightest = λ rows at.
          lightest-stays (lightest-one (new rows) (rw (due-new rows at) at (update-lead seven-laws (due rows at)))) (lead_1 rows at) (omega arith);
      long = refl;
      holds = holds;
      top = λ e. omega arith;
    }
