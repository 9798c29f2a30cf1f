-- `text::Reply::write` meets its contract: the lines put one after the other are the answer's.
use Rattle.std.proofs.Common.{refl, inl, inr, rules}
use Rattle.text.specs.Answers.{details}
use Rattle.text.specs.Replies.{said}
use Rattle.text.specs.Answers.HasWritten.{refused}
use Rattle.text.proofs.Puts.{puts_join}
use Rattle.text.proofs.Answers.{first_alone, all_lines, has_written}
use Rattle.text.proofs.Reply.write.Goals.{then-self-eq0, else-self-eq0}
use Rattle.text.proofs.Reply.write.Goals as goal

pub returns-then-self-lines : goal.returns-then-self-lines
returns-then-self-lines c = refused (inr (rw (c.from-lines.ensures, c.from-symbols.ensures) at c.if-self-lines.true))

pub returns-then-out-lines : goal.returns-then-out-lines
returns-then-out-lines c = refused (inl (rw (c.from-lines.ensures, c.from-symbols.ensures) at c.if-out-lines.true))

pub returns : goal.returns
unfolding details
returns c =
    let o = said c.args.self.now in
    let room = rw (c.from-lines.ensures, c.from-symbols.ensures) at c.if-out-lines.false in
    let there = rw (c.from-lines.ensures, c.from-symbols.ensures) at c.if-self-lines.false in
    let first = rw c.from.ensures at c.put_line.ensures in
    elim c.if-self-eq0.branch [
      | then-self-eq0 w ↦ let put = puts_join first
          (puts_join w.put_line-then-self-eq0.ensures
          (puts_join (rw w.from-then-self-eq0.ensures at w.put_line-then-self-eq0-2.ensures)
          (puts_join (rw w.from-then-self-eq0-2.ensures at w.put_line-then-self-eq0-3.ensures)
          (rw (c.from-lines.ensures, c.from-symbols.ensures) at w.put_messages.ensures)))) in
          let same = put.same in
          rw w.page-is (has_written o refl (search rules) room there (all_lines o w.if-self-eq0.true put))
      | else-self-eq0 w ↦ let same = first.same in
          rw w.page-is (has_written o refl (search rules) room there (first_alone o w.if-self-eq0.false first))
    ]
