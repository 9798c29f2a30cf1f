use Rattle.std.proofs.Common.{◌≡◌, ℕ, ◌+◌, ◌≤◌, List, ◌++◌, rules, length, take, sym, ap, ◌∙◌, subst, length-take-le}
use Rattle.std.proofs.lemmas.List.{take-append-le}
use Rattle.std.proofs.Math.Seq.{take-append-add}
use Rattle.std.specs.Io.KnownBytes.{Consumes}
use Rattle.std.proofs.KnownBytes.{Consumes-trans}
use Rattle.listing.proofs.read_full.Goals as goal

-- what was read before, and the bytes of one read more
joined : (p ys zs : List ℕ) (a n : ℕ) → length p ≡ a → n ≤ length ys → p ++ take n ys ≡ take (a + n) (p ++ (ys ++ zs))
joined p ys zs a n e h =
    ap (λ l. p ++ l) (sym (take-append-le n ys zs h)) ∙ sym (take-append-add p (ys ++ zs) n) ∙ ap (λ k. take (k + n) (p ++ (ys ++ zs))) e

pub loop-got-preserved : goal.loop-got-preserved
loop-got-preserved g c =
    let before = length-take-le c.loop-got.got c.loop-got.buffer c.loop-got.invariant.within in
    let all = joined _ _ _ c.loop-got.got c.in_ok-more.more before c.in_ok-more.ensures.bound.0 in
    record {
      within = search rules;
      bytes = subst (Consumes _ _) all (Consumes-trans _ _ _ _ _ c.loop-got.invariant.bytes c.in_ok-more.ensures.bytes.0);
    }
