-- The word 1, 2, 3 at the points 1, 2, 3: h is x, so that row 1, y - x, leads at y from the start.
use mathlib.Core.Path.{refl}
use mathlib.Core.List.{List, [], ◌∷◌, ◌++◌}
use Prim.Native.Nat.{ℕ}
use native.Mathlib.Decide.{dec_le, ℕ_discrete}
use native.Mathlib.Omega.{arith}
use Rattle.field.specs.Field.{Ring, pow, prod, Field}
use Rattle.field.specs.Symbols.{symbol, symbols, sum_of, product_of, negative_of, inverse_of, same_symbol, symbols_of}
use Rattle.poly.specs.Polynomials.{Seq, zero_s, one_s, add_s, neg_s, scale_s, mul_s, cons_s, const_s, x_s, lin, value, mono}
use Rattle.curves.specs.Curves.{Curve, Lead}
use Rattle.curves.specs.Start.{start_row}
use Rattle.curves.specs.Turns.{finished, rises}
use Rattle.curves.specs.Entry.{Sound}
use Rattle.curves.specs.Finish.{monic}
use Rattle.curves.proofs.Leads.{seek, look, pick, lead-found}
use Rattle.curves.proofs.Least.{lightest-one, lightest-new}
use Rattle.curves.proofs.StartRows.{start-first, start-sound}
use Rattle.rows.specs.Bytes.{HoldsCurve}
use Rattle.rows.specs.Demands.{Request, shape_for}
use Rattle.figures.specs.Figures.{three, at_three}
use Rattle.figures.proofs.Computed.{seven-laws, through, holds-curve}
use Rattle.figures.proofs.Calls.{Interpolates, start_for, AtStart, Worked}

abbrev F : Field
F = symbols 7

abbrev R : Ring
R = F.ring

abbrev q : Request
q = at_three three 1

abbrev x : Seq R
x = symbols_of 7 (0 ∷ 1 ∷ 0 ∷ [])

thr : Interpolates q x
unfolding symbol sum_of product_of value
thr = through three three (0 ∷ 1 ∷ 0 ∷ []) refl tt

abbrev start : ℕ → Curve R
start = start_for q x

sound : Sound R 1 3 1 1 start
sound = start-sound seven-laws 1 thr 2 1 (omega arith) (omega arith) (omega arith)

lead : Lead R 1 1 1 (start 1)
unfolding symbol sum_of product_of negative_of same_symbol pow prod zero_s one_s add_s neg_s mul_s cons_s const_s x_s lin start_row seek look pick dec_le
    ℕ_discrete
lead = lead-found F 1 (start 1) 2 4 (sound.low 1 (omega arith) (omega arith)) (sound.light 1 (omega arith)) refl

module _ (rows : ℕ → Curve R) (at : AtStart q x rows) where
  lead_0 : Lead R 1 3 0 (rows 0)
  lead_0 = rw (at 0 (omega arith)) (start-first seven-laws 1 thr 1)

  lead_1 : Lead R 1 1 1 (rows 1)
  lead_1 = rw (at 1 (omega arith)) lead

abbrev bytes : List ℕ
bytes = (0 ∷ 6 ∷ 0 ∷ 0 ∷ []) ++ (1 ∷ 0 ∷ 0 ∷ 0 ∷ [])

abbrev curve : Curve R
curve = monic F 1 0 (start 1)

holds : HoldsCurve (shape_for q) bytes curve
unfolding symbol sum_of product_of negative_of inverse_of pow prod zero_s one_s add_s neg_s scale_s mul_s cons_s const_s x_s lin start_row mono
holds = holds-curve (shape_for q) curve bytes tt

pub worked_1_2_3 : Worked q 0 1 1 bytes
worked_1_2_3 =
    record {
      h = x;
      through = thr;
      left = λ rows. rows;
      turn = λ a le rows at. rises {r = 1} 1 (omega arith) (lead_1 rows at) (finished {r = 2} (omega arith));
      lightest = λ rows at. lightest-new (lightest-one rows (lead_0 rows at)) (lead_1 rows at) (omega arith);
      long = refl;
      holds = holds;
      top = λ e. omega arith;
    }
