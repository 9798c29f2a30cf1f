-- `text::writing::Page::put_message` meets its contract: the key, the symbols and the line feed.
use Rattle.std.proofs.Common.{arith}
use Rattle.text.proofs.Puts.{puts_join, puts_bound}
use Rattle.text.proofs.writing.Page.put_message.Goals as goal

pub returns : goal.returns
returns c = puts_bound (puts_join c.put_bytes.ensures (puts_join c.put_numbers.ensures c.put_byte.ensures)) (omega arith)
