-- `text::reading::take_line` meets its contract: the key, and the value up to the first line feed after it.
use Rattle.std.proofs.Common.{◌≡◌, rules, ◌∙◌, Some, None, ◌≢◌}
use Rattle.std.proofs.lemmas.Bool.Decides.{Decides-eqb}
use Rattle.std.proofs.lemmas.Slice.Eq.{strip_prefix_is}
use Rattle.std.proofs.lemmas.Iterator.{IsFirst-from_position, YieldsList-from_slice}
use borrow.Author.Tests.{tests}
use Rattle.text.proofs.Grammar.{line-flat}
use Rattle.text.proofs.StandingLines.{line_ends, no_line}
use Rattle.text.proofs.reading.take_line.Goals as goal

pub returns-in_err-rest : goal.returns-in_err-rest
returns-in_err-rest c =
    rw c.from_residual.ensures (λ l. strip_prefix_is Decides-eqb _ _ None c.in_err-rest.ensures.cases _
    (l.is ∙ line-flat c.args.key.now l.value l.rest))

pub returns-in_err-end : goal.returns-in_err-end
returns-in_err-end c =
    let starts = strip_prefix_is Decides-eqb _ _ (Some c.in_ok-rest.rest) c.in_ok-rest.ensures.cases in
    rw c.from_residual-in_err-end.ensures (no_line c.args.key.now c.args.text.now c.in_ok-rest.rest.now starts
    (IsFirst-from_position _ _ None (λ b. b ≡ 10) (λ b. b ≢ 10) c.in_err-end.ensures.ran (YieldsList-from_slice c.in_ok-rest.rest.now cc)
    (λ x q k. search (rules, tests)) (λ x q k. search (rules, tests))))

pub returns : goal.returns
returns c =
    let starts = strip_prefix_is Decides-eqb _ _ (Some c.in_ok-rest.rest) c.in_ok-rest.ensures.cases in
    let first =
    IsFirst-from_position _ _ (Some c.in_ok-end.end) (λ b. b ≡ 10) (λ b. b ≢ 10) c.in_ok-end.ensures.ran
    (YieldsList-from_slice c.in_ok-rest.rest.now cc) (λ x q k. search (rules, tests)) (λ x q k. search (rules, tests)) in
    line_ends c.args.key.now c.args.text.now c.in_ok-rest.rest.now c.in_ok-end.end starts first.0 first.1 first.2
