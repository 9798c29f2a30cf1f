-- What a reply of the code says.
--   said reply     its number, and what is printed beside the number 0
use Rattle.text.specs.Answers as answers
use Rattle.text.specs.declared.Reply.{Reply}

abbrev pub said : Reply → answers.Reply
said r = answers.reply r.number r.updates r.weight r.count r.k r.messages.now
