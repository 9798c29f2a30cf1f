-- `rows::finish` meets its contract: what is found, handed over and measured is the lightest row's.
use mathlib.Core.Path.{refl, sym, subst}
use Prim.Native.Nat.{◌≤◌}
use native.Mathlib.Omega.{arith}
use lib.ListN.{length}
use Rattle.std.proofs.lemmas.Result.{err_from_is_err_and}
use Rattle.poly.proofs.RefusalLaws.{number_of-positive}
use Rattle.poly.specs.Lent.{Untouched}
use Rattle.curves.proofs.Leads.{lead-light}
use Rattle.curves.proofs.Leads.{lead-degree}
use Rattle.rows.specs.Bytes.{curve_bytes, rows_of}
use Rattle.rows.specs.Jobs.{Hands}
use Rattle.rows.specs.Work.{Whole}
use Rattle.rows.specs.declared.Shape.{Shape}
use Rattle.rows.proofs.lightest.HandedCurve.{height-inside}
use Rattle.rows.proofs.Finishing.{Finishes, finishes}
use Rattle.rows.proofs.finish.Goals as goal
use Rattle.rows.proofs.finish.Goals.{After-shape-shape}

pub returns-in_err-refuse_finish : goal.returns-in_err-refuse_finish
returns-in_err-refuse_finish c =
    let p = err_from_is_err_and c.from_residual.result c.from_residual.ensures.1 in
    rw (p.1, p.2)
    (record {
      first = c.in_err-refuse_finish.ensures;
      curve = λ e. absurd (number_of-positive _ e);
      rest = record { long = refl; same = λ q h. refl };
      refused = λ n. (refl, refl, refl);
    })

pub shape-shape-requires : goal.shape-shape-requires
shape-shape-requires c =
    let accepted : Finishes c.args.note c.args.rows.now c.args.curve.now = finishes c.in_ok-refuse_finish.ensures refl in
    let g = accepted.good in (omega arith, omega arith)

-- each row leads at its own power of y
whole_rows : (c : After-shape-shape) → Whole c.shape-shape.result c.args.rows.now
whole_rows c =
    let accepted : Finishes c.args.note c.args.rows.now c.args.curve.now = finishes c.in_ok-refuse_finish.ensures refl in
    subst (λ (S : Shape). Whole S c.args.rows.now) (sym c.shape-shape.ensures) accepted.whole

pub invariant_of-held : goal.invariant_of-held
invariant_of-held c = record { held = (whole_rows (goal.at.invariant_of-held c).After-shape-shape).bytes }

pub lightest-light-requires : goal.lightest-light-requires
lightest-light-requires c = whole_rows (goal.at.lightest-light-requires c).After-shape-shape

pub hand_over-requires : goal.hand_over-requires
hand_over-requires c =
    let accepted : Finishes c.args.note c.args.rows.now c.args.curve.now = finishes c.in_ok-refuse_finish.ensures refl in
    let whole = whole_rows (goal.at.hand_over-requires c).After-shape-shape in
    let room : curve_bytes c.shape-shape.result ≤ length c.args.curve.now =
    subst (λ (S : Shape). curve_bytes S ≤ length c.args.curve.now) (sym c.shape-shape.ensures) accepted.room in
    let light : c.lightest-light.result.weight ≤ c.shape-shape.result.width =
    let p = c.lightest-light.ensures in lead-light p.lead _ (whole.sound.light _ p.inside) in
    let p = c.lightest-light.ensures in
    record { bytes = whole.bytes; inside = omega (arith, p.inside); lead = p.lead; light = light; room = room }

pub overflow_cast-result : goal.overflow_cast-result
overflow_cast-result c =
    let whole = whole_rows (goal.at.overflow_cast-result c).After-shape-shape in
    let light : c.lightest-light.result.weight ≤ c.shape-shape.result.width =
    let p = c.lightest-light.ensures in lead-light p.lead _ (whole.sound.light _ p.inside) in
    omega (arith, light, whole.bytes.fine.wide)

pub height-requires : goal.height-requires
height-requires c = (whole_rows (goal.at.height-requires c).After-shape-shape, omega (arith, c.lightest-light.ensures.inside))

pub overflow_cast-result-2 : goal.overflow_cast-result-2
overflow_cast-result-2 c =
    let whole = whole_rows (goal.at.overflow_cast-result-2 c).After-shape-shape in
    omega (arith, height-inside _ _ _ c.height.ensures, whole.bytes.fine.high)

pub returns : goal.returns
returns c =
    let u = c.hand_over.ensures in
    record {
      first = c.in_ok-refuse_finish.ensures;
      curve = λ e.
          subst (λ (S : Shape). Hands S (rows_of S c.args.rows.now) c.hand_over.new.curve c.lightest-light.result.weight
          c.height.result) c.shape-shape.ensures
          (record {
            row = c.lightest-light.result.row;
            lightest = c.lightest-light.ensures;
            bytes = rw (lead-degree c.lightest-light.ensures.lead) u.0;
            tall = c.height.ensures;
          });
      rest = subst (λ (S : Shape). Untouched (curve_bytes S) c.args.curve.now c.hand_over.new.curve) c.shape-shape.ensures u.1;
      refused = λ n. absurd (n refl);
    }
