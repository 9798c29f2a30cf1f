-- What each job hands back, as the number of section 13 and the values beside it, for each case.
--   started back     what start hands back: 0 and the note, or the number of a refusal and no note
--   turned back      what a turn hands back: its number, the next note and the updates made; made  the same of a turn in place
--   finished back    what finish hands back: 0 with weight and height, or the number of a refusal and zeros
use Rattle.std.specs.Prelude.{Result, Ok, Err}
use Rattle.poly.specs.Refusals.{number_of, outcome}
use Rattle.poly.specs.declared.refused.Refused.{Refused}
use Rattle.rows.specs.Jobs.{Started, Turned, Made, Finished, no_note}
use Rattle.rows.specs.declared.Note.{Note}
use Rattle.rows.specs.declared.Turned.{Turned as TurnedBack}
use Rattle.rows.specs.declared.Made.{Made as MadeBack}
use Rattle.rows.specs.declared.Finished.{Finished as FinishedBack}

abbrev pub started : Result Note Refused → Started
started (Ok note) = record { number = 0; note = note }
started (Err refused) = record { number = number_of refused; note = no_note }

abbrev pub turned : TurnedBack → Turned
turned back = record { number = outcome back.outcome; note = back.note; updates = back.updates }

abbrev pub made : MadeBack → Made
made back = record { number = outcome back.outcome; updates = back.updates }

abbrev pub finished : Result FinishedBack Refused → Finished
finished (Ok back) = record { number = 0; weight = back.weight; height = back.height }
finished (Err refused) = record { number = number_of refused; weight = 0; height = 0 }
