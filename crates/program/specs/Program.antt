-- What the program answers to a text. Rules: section 17.
--   ReplyTo text o    o is the reply to the text: to one that can't be read 14 and nothing more, else what the list job hands back for the
--                     request that the text means, lent as many bytes as any request can want
--   Answered text before after r   the r first bytes of the lent buffer are the reply, printed
use Rattle.std.specs.Prelude.{List, [], ℕ, replicate}
use Rattle.poly.specs.Limits.{messages_most, working_room}
use Rattle.near.specs.Job.{HasListed}
use Rattle.near.specs.Job.{Near}
use Rattle.text.specs.Requests.{Meaning, Readable}
use Rattle.text.specs.Answers.{Reply, reply, HasWritten}

pub data ReplyTo (text : List ℕ) : Reply → Type 0 where
  no_request : ((q : Meaning) → Readable text q → ⊥) → ReplyTo text (reply 14 0 0 0 0 [])
  on_request : (q : Meaning) → Readable text q → (left messages : List ℕ) (back : Near)
      → HasListed q.field q.points q.word q.k q.m q.l q.t
      (replicate working_room 0) left (replicate messages_most 0) messages back
      → ReplyTo text (reply back.number back.updates back.weight back.count q.k messages)

pub record Answered (text before after : List ℕ) (r : ℕ) : Type 0 where
  pub printed : Reply
  pub replies : ReplyTo text printed
  pub prints : HasWritten printed before after r
