-- From what reading, listing and printing hand over to the program's answer.
use Rattle.std.proofs.Common.{List, [], ℕ, Some, None, replicate}
use Rattle.poly.specs.Limits.{messages_most, working_room}
use Rattle.near.specs.Job.{HasListed, Near}
use Rattle.text.specs.Requests.{HasRead}
use Rattle.text.specs.Requests.HasRead.{readable, unreadable}
use Rattle.text.specs.Answers.{reply, HasWritten}
use Rattle.text.specs.declared.Request.{Request}
use Rattle.program.specs.Program.{Answered}
use Rattle.program.specs.Program.ReplyTo.{no_request, on_request}

pub unread-answer : {text before after : List ℕ} {r : ℕ} → HasRead text None → HasWritten (reply 14 0 0 0 0 []) before after r
    → Answered text before after r
unread-answer (unreadable none) w = record { printed = reply 14 0 0 0 0 []; replies = no_request none; prints = w }

-- the list that the code asks is that of the request read
pub listed-answer : {text before after : List ℕ} {r : ℕ} {left messages : List ℕ} {near : Near} {request : Request} → HasRead text (Some request)
    → HasListed request.field request.points request.word request.k request.m request.l request.t
    (replicate working_room 0) left (replicate messages_most 0) messages near
    → HasWritten (reply near.number near.updates near.weight near.count request.k messages) before after r
    → Answered text before after r
listed-answer {left = left} {messages = messages} {near = near} (readable q p) h w =
    record { printed = _; replies = on_request q p left messages near h; prints = w }
