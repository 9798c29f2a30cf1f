-- What the writer and the printer leave for a minute, whatever boat and day are: both go, and the bytes are computed from the minute alone.
use mathlib.Core.Path.{◌≡◌, ap, ◌∙◌}
use mathlib.Core.List.{List}
use Prim.Native.Nat.{ℕ}
use lib.ListN.{drop}
use Rattle.departures.specs.Departures.{six_symbols, clock}
use Rattle.departures.proofs.Outcomes.{put-done}
use Rattle.figures.specs.Figures.{MinuteGives}

-- the last three of the six symbols, in which boat and day do not occur
abbrev three_symbols : ℕ → List ℕ
three_symbols minute = drop 3 (six_symbols (record { boat = 0; day = 0; minute = minute }))

pub minute_gives : (minute : ℕ) {digits time : List ℕ} → three_symbols minute ≡ digits → clock minute ≡ time → MinuteGives minute digits time
minute_gives minute three five =
    record {
      writes = λ d before after number range is room wrote.
          let done = put-done before range room wrote.first in
          (done, ap (drop 3) (wrote.front done) ∙ ap three_symbols is ∙ three);
      shows = λ d before after number range is room shown.
          let done = put-done before range room shown.first in
          (done, shown.front done ∙ ap clock is ∙ five);
    }
