-- `text::writing::Page::put_line` meets its contract: the key, the number and the line feed.
use Rattle.text.proofs.Puts.{puts_join}
use Rattle.text.proofs.writing.Page.put_line.Goals as goal

pub returns : goal.returns
returns c = puts_join c.put_bytes.ensures (puts_join c.put_number.ensures c.put_byte.ensures)
