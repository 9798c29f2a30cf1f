-- The definitions on the last boats of an evening, by computation.
use Rattle.std.specs.Prelude.{◌≡◌, refl, [], ◌∷◌}
use Rattle.departures.specs.Departures.{six_symbols, departure_of, clock}

last-boat : six_symbols (record { boat = 7; day = 100; minute = 1455 }) ≡ 7 ∷ 3 ∷ 7 ∷ 1 ∷ 15 ∷ 29 ∷ []
last-boat = refl

read_example : departure_of (7 ∷ 3 ∷ 7 ∷ 1 ∷ 15 ∷ 29 ∷ []) ≡ record { boat = 7; day = 100; minute = 1455 }
read_example = refl

-- 24:15
clock_example : clock 1455 ≡ 50 ∷ 52 ∷ 58 ∷ 49 ∷ 53 ∷ []
clock_example = refl

latest-minute : six_symbols (record { boat = 30; day = 960; minute = 1799 }) ≡ 30 ∷ 30 ∷ 30 ∷ 1 ∷ 27 ∷ 1 ∷ []
latest-minute = refl

-- 29:59
latest-clock : clock 1799 ≡ 50 ∷ 57 ∷ 58 ∷ 53 ∷ 57 ∷ []
latest-clock = refl

-- 00:15, which is another minute
early-clock : clock 15 ≡ 48 ∷ 48 ∷ 58 ∷ 49 ∷ 53 ∷ []
early-clock = refl
