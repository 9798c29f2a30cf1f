-- What list hands back, as the number of section 13 and the values beside it, for each case.
--   listed back     0 with count, updates and weight, or the number of a refusal and zeros
use Rattle.std.specs.Prelude.{Result, Ok, Err}
use Rattle.poly.specs.Refusals.{number_of}
use Rattle.poly.specs.declared.refused.Refused.{Refused}
use Rattle.near.specs.Job.{Near, refusal}
use Rattle.near.specs.declared.Near.{Near as NearBack}

abbrev pub listed : Result NearBack Refused → Near
listed (Ok back) = record { number = 0; count = back.count; updates = back.updates; weight = back.weight }
listed (Err refused) = refusal (number_of refused)
