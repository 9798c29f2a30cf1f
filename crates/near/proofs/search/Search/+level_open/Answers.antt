-- `level` and `open` of `near::search::Search` meet their contracts. The loop's invariant: the symbols below c are tried. What is left to
-- choose falls from open to level, and level is above open with as much left.
use mathlib.Core.Path.{◌≡◌, refl}
use Prim.Native.Nat.{◌<◌}
use native.Mathlib.Omega.{arith}
use Rattle.near.proofs.search.Levels.{going-none, going_searches, going-all, fitting, failing, opens, grown, passed}
use Rattle.near.proofs.search.Levels.{spelt-last, front-kept, with-last, with-next, next_searches, back_tries, back-leaves}
use Rattle.near.proofs.search.Search.+level_open.Goals as goal
use Rattle.near.proofs.search.Search.+level_open.Goals.{level-then-fits, level-else-fits}

pub level-loop-c-init : goal.level-loop-c-init
level-loop-c-init t c = (going-none c.requires.searches, c.lowest-low.ensures)

pub level-open-found-requires : goal.level-open-found-requires
level-open-found-requires t c =
    let s = c.requires.searches in
    let g = c.loop-c.invariant.0 in
    let h = c.loop-c-test.true in
    let e = fitting s g c.loop-c.invariant.1 c.fits.ensures c.if-fits.true in
    (omega arith, (going_searches s g, (h, opens s g h e c.requires.room)))

pub level-loop-c-preserved : goal.level-loop-c-preserved
level-loop-c-preserved t c =
    let s = c.requires.searches in
    let g = c.loop-c.invariant.0 in
    let low = c.loop-c.invariant.1 in
    let h = c.loop-c-test.true in
    let fit = c.fits.ensures in
    elim c.if-fits.branch [
      | level-then-fits w ↦ (
        rw (w.curve-is, w.chosen-is, w.messages-is, w.found-is) (grown s g h (fitting s g low fit w.if-fits.true)
            w.open-found.auto.chosen w.open-found.ensures),
        low,
      )
      | level-else-fits w ↦ (
        rw (w.curve-is, w.chosen-is, w.messages-is, w.found-is) (passed s g h (failing s g low fit w.if-fits.false)),
        low,
      )
    ]

pub level-returns : goal.level-returns
level-returns t c =
    let g = c.loop-c.invariant.0 in
    let e : c.loop-c.c ≡ c.args.self.now.plan.shape.p = omega (arith, g.upto) in
    going-all c.requires.searches g e

pub open-keep-requires : goal.open-keep-requires
open-keep-requires t c =
    let s = c.requires.searches in
    let b = c.requires.c_lt_p in
    let e = c.if-left-eq1.true in
    record { spelt = spelt-last s b e; room = rw (with-last s b e) c.requires.room }

pub open-returns-then-left-eq1 : goal.open-returns-then-left-eq1
open-returns-then-left-eq1 t c =
    let s = c.requires.searches in
    let b = c.requires.c_lt_p in
    record { same = refl; front = front-kept s b; wrote = rw (with-last s b c.if-left-eq1.true) at c.keep.ensures }

pub open-level-found-requires : goal.open-level-found-requires
open-level-found-requires t c =
    let s = c.requires.searches in
    let b = c.requires.c_lt_p in
    let n : 1 < c.args.left = omega (arith, s.some, c.if-left-eq1.false) in
    let shift = c.shift.ensures in (
      omega arith,
      (next_searches s b shift n, record { enough = rw (with-next s b shift) c.requires.room.enough }),
    )

pub open-shift-requires-2 : goal.open-shift-requires-2
open-shift-requires-2 t c = back_tries c.requires.searches c.requires.c_lt_p c.shift.ensures c.level-found.ensures c.negative.ensures

pub open-returns : goal.open-returns
open-returns t c =
    back-leaves c.requires.searches c.requires.c_lt_p c.shift.ensures c.level-found.ensures c.negative.ensures c.shift-2.ensures
