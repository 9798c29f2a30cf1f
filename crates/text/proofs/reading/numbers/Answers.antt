-- `text::reading::numbers` meets its contract. The loop's invariant, `SoFar`: the numbers read so far and those of the rest are those of the whole.
use Rattle.std.proofs.Common.{◌≡◌, ◌≤◌, ◌<◌, ◌++◌, [], ◌∷◌, false, length, rules}
use borrow.Author.Tests.{tests}
use Rattle.std.proofs.lemmas.Fn.{always_returns_same}
use Rattle.poly.specs.Limits.{field_most}
use Rattle.text.proofs.Items.{SoFar, Part, none_yet, next_part, more_items, no_item, too-many, all_read}
use Rattle.text.proofs.reading.numbers.Goals.{In-Some}
use Rattle.text.proofs.reading.numbers.Goals as goal

-- what is read next
part : (c : In-Some) → Part c.loop-part.part-iterator.rest.now c.in-Some.part.now c.next.new.self.done c.next.new.self.rest.now
part c =
    next_part c.loop-part.part-iterator c.next.new.self c.in-Some.part c.in-Some.ensures.steps
    (always_returns_same _ _ _ (λ a r f k. search (rules, tests)))

so_far : (c : In-Some) → SoFar c.args.text.now c.loop-part.items false c.loop-part.part-iterator.rest.now
so_far c = rw c.in-Some.ensures.steps.0 at c.loop-part.invariant

pub loop-part-init : goal.loop-part-init
loop-part-init c =
    let split = c.split-part-items.ensures in
    rw (c.into_iter-part-iterator.ensures.into_iter_gives, split.rest, split.done, c.new-items.ensures) (none_yet c.args.text.now)

pub loop-part-preserved : goal.loop-part-preserved
loop-part-preserved c =
    let s = (goal.at.loop-part-preserved c).In-Some in
    let room : length c.loop-part.items < field_most = search (rules, tests) in
    let pushed : c.push.new.self ≡ c.loop-part.items ++ c.in_ok-number.field-0 ∷ [] = search (rules, tests) in
    rw pushed (more_items (so_far s) (part s) c.in_ok-number.field-0 room c.in_ok-number.ensures)

pub returns-in_err-number : goal.returns-in_err-number
returns-in_err-number c =
    let s = (goal.at.returns-in_err-number c).In-Some in
    rw c.from_residual.ensures (λ v. no_item (so_far s) (part s) c.in_err-number.ensures v)

pub returns-in_err-push : goal.returns-in_err-push
returns-in_err-push c =
    let s = (goal.at.returns-in_err-push c).In-Some in
    let full : field_most ≤ length c.loop-part.items = search (rules, tests) in
    rw c.from_residual-in_err-push.ensures (λ v. too-many (so_far s) full v)

pub returns : goal.returns
returns c = all_read (rw c.in-None.ensures.steps.0 at c.loop-part.invariant)
