-- `value_at` meets its contract: the sum is the value of the coefficients that were taken.
use Rattle.std.proofs.Common.{rules, arith, ◌≡◌, sym, ap, subst, ◌∙◌, length, take, take_all, ◌+◌, add-sub_cancel}
use Rattle.std.proofs.lemmas.List.{length_push}
use Rattle.field.specs.Symbols.{symbol, symbols_of}
use Rattle.poly.proofs.BufferLaws.{taken-last, horner-none, horner-more}
use Rattle.poly.proofs.value_at.Goals as goal

pub loop-c-init : goal.loop-c-init
loop-c-init c =
    let s = c.args in
    let all : c.into_iter-c-iterator.result.iter.rest.now ≡ s.coefficients.now = search rules in
    rw all (
      sym (take_all (length s.coefficients.now) s.coefficients.now (omega arith)),
      sym (horner-none s.p s.a (length s.coefficients.now) (symbols_of s.p s.coefficients.now)),
    )

pub loop-c-preserved : goal.loop-c-preserved
loop-c-preserved c =
    let s = c.args in
    let xs = s.coefficients.now in
    let left = c.next.new.self.iter.rest.now in
    let b = c.in-Some.c.now in
    let taken = subst (λ ys. ys ≡ take (length ys) xs) c.in-Some.ensures.steps c.loop-c.invariant.0 in
    let (inside, first, last) = taken-last left xs b taken in
    let next = rw (add-sub_cancel (length left) 1) at (horner-more s.p s.a (length xs) (symbols_of s.p xs) b (length left + 1) (omega arith)
    (omega (arith, inside))) in (
      first,
      c.plus_product-sum.ensures ∙ rw (c.loop-c.invariant.1, ap length c.in-Some.ensures.steps, length_push left b) (next (ap (symbol s.p) last)),
    )
