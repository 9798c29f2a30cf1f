use Rattle.std.proofs.Common.{◌-◌, ◌≤◌, length, take}
use Rattle.std.specs.Io.KnownBytes.{Consumes}
use Rattle.listing.proofs.read_full.Given as goal

-- what was read so far is at the beginning of the buffer
abbrev pub invariant-loop-got : goal.invariant-loop-got
invariant-loop-got g l = record {
  within : l.got ≤ length l.buffer;
  bytes : Consumes (g.R.Read.remaining l.fn.input) (g.R.Read.remaining l.input) (take l.got l.buffer);
}

abbrev pub decreases-loop-got : goal.decreases-loop-got
decreases-loop-got g l = length l.initial.buffer - l.got
