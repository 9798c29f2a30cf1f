-- What the reader and a board's question hand back, as the number of section 13 and what stands beside it, for each case.
--   reading back     what the reader hands back: 0 and the departure, or the number of a refusal and the departure of zeros
--   heard back       what hear hands back: none, one departure, several, or the number of a refusal; answered  the first three
use Rattle.std.specs.Prelude.{Result, Ok, Err}
use Rattle.poly.specs.Refusals.{number_of}
use Rattle.poly.specs.declared.refused.Refused.{Refused as RefusedBack}
use Rattle.departures.specs.Jobs.{Reading, zero_departure}
use Rattle.departures.specs.Hearing.{Heard}
use Rattle.departures.specs.Hearing.Heard.{None, One, Several, Refused}
use Rattle.departures.specs.declared.Departure.{Departure}
use Rattle.departures.specs.declared.Heard.{Heard as HeardBack}
use Rattle.departures.specs.declared.Heard.TheVariants.{None as none, One as one, Several as several}

abbrev pub reading : Result Departure RefusedBack → Reading
reading (Ok departure) = record { number = 0; departure = departure }
reading (Err refused) = record { number = number_of refused; departure = zero_departure }

abbrev pub answered : HeardBack → Heard
answered none = None
answered (one departure) = One departure
answered several = Several

abbrev pub heard : Result HeardBack RefusedBack → Heard
heard (Ok back) = answered back
heard (Err refused) = Refused (number_of refused)
