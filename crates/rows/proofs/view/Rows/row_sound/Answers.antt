-- `rows::view::Rows::row_sound` meets its contract: each test is one part of what a row has to be.
use mathlib.Core.Path.{◌≡◌, sym, ◌∙◌}
use mathlib.Core.Bool.{true≢false}
use Prim.Native.Nat.{suc, ◌+◌, min, max, ◌≤◌, ◌<◌}
use native.Mathlib.Nat.{mul-le-mul_right}
use native.Mathlib.Omega.{arith}
use borrow.Author.Tests.{le-leb}
use Rattle.std.proofs.lemmas.Bool.{eq-eqb, eqb-true}
use Rattle.poly.specs.Buffers.{Decided}
use Rattle.poly.proofs.TableLaws.{decided-true, decided-false}
use Rattle.curves.proofs.Leads.{lead_unique}
use Rattle.rows.specs.Bytes.{slot as slot_of}
use Rattle.rows.specs.View.{ring_of, row_of}
use Rattle.rows.specs.Work.{SoundRow}
use Rattle.rows.proofs.Placing.{row-end, light-row}
use Rattle.rows.proofs.sound.Soundness.{Low, sound-low, passed-row}
use Rattle.rows.proofs.view.Rows.row_sound.Goals as goal
use Rattle.rows.proofs.view.Rows.row_sound.Goals.{After-zero_between, In-Some}

pub returns-then-not-row_light : goal.returns-then-not-row_light
returns-then-not-row_light c =
    let held = c.args.self.now.held in
    decided-false (λ x. c.row_light.ensures.fails c.if-not-row_light.true (light-row held c.requires.0 x.light))

pub zero_between-requires : goal.zero_between-requires
zero_between-requires c =
    let s = c.args.self.now in
    let tall : min (max c.args.i c.args.r) s.shape.l + 1 ≤ suc s.shape.l = omega arith in
    rw (c.curve_bytes-curve.ensures, c.min-tallest.ensures, c.max.ensures, c.slot.ensures) (
      omega (arith, mul-le-mul_right (slot_of s.shape) tall),
      omega (arith, row-end s.shape c.requires.0, s.held.room),
    )

low : (c : After-zero_between) → Decided c.zero_between.result (Low c.args.self.now.held c.requires.0 c.args.r)
low c = rw (c.curve_bytes-curve.ensures, c.min-tallest.ensures, c.max.ensures, c.slot.ensures) at c.zero_between.ensures

pub returns-then-not-zero_between : goal.returns-then-not-zero_between
returns-then-not-zero_between c =
    let a = low (goal.at.returns-then-not-zero_between c).After-zero_between in
    decided-false (λ x. a.fails c.if-not-zero_between.true (sound-low c.args.self.now.held c.requires.0 c.args.r x))

-- all but that the row leads at its own power of y
passed : (c : In-Some) → let a = c.args in let s = a.self.now in (a.i < a.r → c.in-Some.lead.power ≡ a.i)
    → SoundRow (ring_of s) s.shape.u s.shape.width a.r a.i (row_of s a.i)
passed c =
    let a = low (goal.at.In-Some c).After-zero_between in
    passed-row c.args.self.now.held c.requires.0 c.args.r (c.row_light.ensures.holds c.if-not-row_light.false)
    (a.holds c.if-not-zero_between.false) c.in-Some.ensures

pub returns-then-r-i : goal.returns-then-r-i
returns-then-r-i c =
    rw (le-leb _ _ c.if-r-i.true) (decided-true (passed (goal.at.returns-then-r-i c).In-Some (λ h. absurd (omega arith))))

pub returns-else-r-i : goal.returns-else-r-i
returns-else-r-i c =
    record {
      holds = λ e. passed (goal.at.returns-else-r-i c).In-Some (λ h. eqb-true _ _ e);
      fails = λ e x. true≢false (sym (eq-eqb _ _ (lead_unique c.in-Some.ensures (x.own c.if-r-i.false).1).1) ∙ e);
    }
