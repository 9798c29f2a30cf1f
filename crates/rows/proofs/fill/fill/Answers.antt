-- `rows::fill::fill` meets its contract. The loop's invariant: the rows before row i are in place, and the bytes from there on are zero.
use mathlib.Core.Path.{sym}
use native.Mathlib.Omega.{arith}
use Prim.Native.Nat.{◌+◌, ◌-◌}
use lib.ListN.{length, take, drop}
use lib.Seq.{length-take-le}
use borrow.Author.Rules.{rules}
use Rattle.poly.proofs.BufferLaws.{take-rest, untouched-then}
use Rattle.rows.proofs.fill.FilledRows.{RowsFilled, to_fill, filled-bare, filled-low, filled-high, filled-all, h-below, e-below}
use Rattle.rows.proofs.fill.fill.Goals as goal
use Rattle.rows.proofs.fill.fill.Goals.{Joined-i-m, then-i-m, else-i-m}

pub slice_bounds-h-end : goal.slice_bounds-h-end
slice_bounds-h-end c = sym (length-take-le 32 c.args.work.now (omega (arith, c.requires.long)))

pub fill_low-requires : goal.fill_low-requires
fill_low-requires c =
    let q = c.requires in
    record {
      fine = q.fine;
      room = search rules;
      inside = c.loop-i-test.true;
      low = c.if-i-m.true;
      below_h = h-below q;
      below_e = e-below q;
      bare = filled-bare c.loop-i-test.true c.loop-i.invariant.1;
    }

-- row i has come to stand
grown : (c : Joined-i-m) → let a = c.args in RowsFilled a.shape (to_fill a.shape a.m (take 32 a.work.now)
    (take (length a.work.now - 32) (drop 32 a.work.now))) (c.loop-i.i + 1) c.clear.new.xs c.if-i-m.rows
grown c =
    elim c.if-i-m.branch [
      | then-i-m w ↦ rw w.rows-is (filled-low _ _ _ _ c.loop-i-test.true c.loop-i.invariant.1 w.fill_low.ensures)
      | else-i-m w ↦ rw w.rows-is (filled-high _ _ _ _ c.loop-i-test.true c.loop-i.invariant.1 c.requires.fine.size w.if-i-m.false
          (record { fine = c.requires.fine; room = search rules; some = omega arith; inside = c.loop-i-test.true }) w.raise_row.ensures)
    ]

pub loop-i-preserved : goal.loop-i-preserved
loop-i-preserved c = (search rules, grown (goal.at.loop-i-preserved c).Joined-i-m)

pub returns-after-i-m : goal.returns-after-i-m
returns-after-i-m c =
    let f = grown (goal.at.returns-after-i-m c).Joined-i-m in
    let z = rw c.rows_bytes.ensures at c.clear.ensures in
    (rw (take-rest 32 c.args.work.now) at (filled-all (search rules) f), untouched-then z.rest f.rest)
