-- `encode` meets its contract: the loop has written the values at the places passed. Assumes nothing.
use mathlib.Core.Path.{refl}
use native.Mathlib.Omega.{arith}
use borrow.Author.Rules.{rules}
use Rattle.poly.proofs.Encoding.{accepted, written-more}
use Rattle.poly.proofs.encode.Goals as goal

pub loop-s-init : goal.loop-s-init
loop-s-init c = (
  search rules,
  accepted c.in_ok-refuse_encode.ensures refl,
  record { long = refl; word = λ q h. absurd (omega arith); rest = λ q h. refl },
)

pub loop-s-preserved : goal.loop-s-preserved
loop-s-preserved c =
    let l = c.loop-s in
    (search rules, l.invariant.1, written-more l.invariant.2 (search rules) c.value_at.ensures)

pub returns : goal.returns
returns c =
    let l = c.loop-s in
    let w = l.invariant.2 in
    record {
      first = c.in_ok-refuse_encode.ensures;
      long = w.long;
      word = λ e s h. w.word s (search rules);
      rest = λ s h. w.rest s (let g = h refl in omega arith);
    }
