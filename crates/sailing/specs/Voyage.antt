-- A departure's way from the writer to the board. Rules: section 23.
--   AllPoints points         each symbol of the field as a point, in order
--   multiplicity, height, wanted    the m, l and t that the board asks with; disturbed_most  how many symbols may then be disturbed
--   Disturbs count xs ys     the first `count` symbols of a word came out as other symbols of the field, and the rest as they were
--   Sailed d count heard     the departure was written, its six symbols encoded at all points, the word disturbed, and this is what is heard
--                            of the word that was received. blank, empty and room are the rooms that the jobs were lent
use Rattle.std.specs.Prelude.{◌≡◌, List, ℕ, ◌≤◌, ◌<◌, length, get_or, take}
use Rattle.poly.specs.Limits.{working_room}
use Rattle.poly.specs.Encode.{Encoded}
use Rattle.poly.specs.Lent.{Untouched}
use Rattle.departures.specs.Departures.{departure_field, departure_symbols}
use Rattle.departures.specs.Jobs.{WritesDeparture}
use Rattle.departures.specs.Hearing.{HasHeard, disturbed}
use Rattle.departures.specs.declared.Departure.{Departure}
use Rattle.departures.specs.Hearing.{Heard}

pub record AllPoints (points : List ℕ) : Type 0 where
  pub long : length points ≡ departure_field
  pub each : (i : ℕ) → i < departure_field → get_or points i 0 ≡ i

abbrev pub multiplicity : ℕ
multiplicity = 2

abbrev pub height : ℕ
height = 4

abbrev pub wanted : ℕ
wanted = 16

abbrev pub disturbed_most : ℕ
disturbed_most = 15

pub record Disturbs (count : ℕ) (before after : List ℕ) : Type 0 where
  pub changed : disturbed (length before) before after ≡ count
  pub symbols : (s : ℕ) → s < count → get_or after s 0 < departure_field
  pub rest : Untouched count before after

pub record Sailed (d : Departure) (count : ℕ) (heard : Heard) : Type 0 where
  pub blank : List ℕ
  pub message : List ℕ
  pub written : WritesDeparture d blank message 0
  pub points : List ℕ
  pub all : AllPoints points
  pub empty : List ℕ
  pub sent : List ℕ
  pub encoded : Encoded departure_field points (take departure_symbols message) empty sent 0
  pub whole : length sent ≡ departure_field
  pub received : List ℕ
  pub disturbs : Disturbs count sent received
  pub room : List ℕ
  pub enough : working_room ≤ length room
  pub cleared : List ℕ
  pub hears : HasHeard points received multiplicity height wanted room cleared heard
