use Rattle.std.proofs.Common.{◌≡◌, ℕ, ◌^◌, ◌<◌, ◌≤◌, get_or}
use Rattle.text.specs.Requests.{number_of}
use Rattle.text.proofs.reading.number.Given as goal

abbrev pub invariant-loop-b : goal.invariant-loop-b
invariant-loop-b l = record {
  low : l.value < 10 ^ l.b-index;
  written : l.value ≡ number_of l.text l.b-index;
  digits : (k : ℕ) → k < l.b-index → (48 ≤ get_or l.text k 0) × (get_or l.text k 0 ≤ 57);
}
