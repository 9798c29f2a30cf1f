-- The figures of docs/RULES.md, section 18, that are marked to be proved, as one statement. Each says what any outcome is that meets the
-- contracts of the jobs, whatever the lent bytes were before.
--   six, three             the points 1 to 6 and the points 1, 2, 3; word_0_0_1  a word at these; zero_to_15  the points 0 to 15
--   Encodes p points message word   encode gives this word
--   Calls q                start, turn and finish one after the other, for the request q
--   Gives                  what three such calls hand back, and the bytes of the curve
--   at_three word m        the request of a word at the points 1, 2, 3 over the field of 7, with k = 2 and l = m
--   ListGives t near       what list hands back for the word 0, 0, 1 there, asked for t agreements
--   EncodeGives number p points k   encode of a message of k symbols gives this number
--   Refused number ..      start and list both give this number
--   MinuteGives minute digits time   the last three symbols that the writer leaves for a departure of this minute, and the bytes of text that
--                          the printer leaves, whatever its boat and day
--   Figures                the whole table
use Rattle.std.specs.Prelude.{◌≡◌, ◌↔◌, List, [], ◌∷◌, ◌++◌, ℕ, suc, ◌-◌, ◌*◌, ◌≤◌, ◌<◌, length, get_or, take, drop}
use Rattle.field.specs.Field.{pow}
use Rattle.field.specs.Symbols.{symbols, symbols_of}
use Rattle.poly.specs.Polynomials.{Seq, Series, x_s, Through}
use Rattle.poly.specs.Table.{BadHeights, TooLarge}
use Rattle.poly.specs.Encode.{Encoded}
use Rattle.poly.specs.Limits.{working_room}
use Rattle.curves.specs.Start.{formula}
use Rattle.curves.specs.Finish.{Lightest}
use Rattle.rows.specs.Bytes.{curve_bytes, rows_bytes, rows_of, HoldsCurve}
use Rattle.rows.specs.Jobs.{HasStarted, HasTurned, HasFinished}
use Rattle.rows.specs.Demands.{Request, ring_for, shape_for, note_for, updates_bound}
use Rattle.rows.specs.Jobs.{Started, Turned, Finished}
use Rattle.near.specs.Job.{refusal, HasListed}
use Rattle.near.specs.Job.{Near}
use Rattle.departures.specs.Departures.{InRange, departure_symbols, time_bytes}
use Rattle.departures.specs.Jobs.{WritesDeparture, ShowsDeparture}
use Rattle.departures.specs.declared.Departure.{Departure}

abbrev pub six : List ℕ
six = 1 ∷ 2 ∷ 3 ∷ 4 ∷ 5 ∷ 6 ∷ []

abbrev pub zero_to_15 : List ℕ
zero_to_15 = 0 ∷ 1 ∷ 2 ∷ 3 ∷ 4 ∷ 5 ∷ 6 ∷ 7 ∷ 8 ∷ 9 ∷ 10 ∷ 11 ∷ 12 ∷ 13 ∷ 14 ∷ 15 ∷ []

abbrev pub Encodes : ℕ → List ℕ → List ℕ → List ℕ → Type 0
Encodes p points message word =
    (before after : List ℕ) (number : ℕ) → length points ≤ length before → Encoded p points message before after number
    → (number ≡ 0) × (take (length points) after ≡ word)

-- with room enough, and one turn whose allowance is the formula or more
pub record Calls (q : Request) : Type 0 where
  pub lent : List ℕ
  pub rows : List ℕ
  pub new : List ℕ
  pub before : List ℕ
  pub curve : List ℕ
  pub allowance : ℕ
  pub start : Started
  pub turn : Turned
  pub finish : Finished
  pub room : rows_bytes (shape_for q) ≤ length lent
  pub curve_room : curve_bytes (shape_for q) ≤ length before
  pub enough : updates_bound q ≤ allowance
  pub starts : HasStarted q.p q.points q.word q.k q.m q.l lent rows start
  pub turns : HasTurned start.note allowance rows new turn
  pub finishes : HasFinished turn.note new before curve finish

pub record Gives {q : Request} (c : Calls q) (updates weight height : ℕ) (bytes : List ℕ) : Type 0 where
  pub start : c.start ≡ record { number = 0; note = note_for q 1 }
  pub turn : c.turn ≡ record { number = 0; note = note_for q (suc q.l); updates = updates }
  pub finish : c.finish ≡ record { number = 0; weight = weight; height = height }
  pub curve : take (curve_bytes (shape_for q)) c.curve ≡ bytes

abbrev pub three : List ℕ
three = 1 ∷ 2 ∷ 3 ∷ []

abbrev pub at_three : List ℕ → ℕ → Request
at_three word m = record { p = 7; points = three; word = word; k = 2; m = m; l = m }

abbrev pub word_0_0_1 : List ℕ
word_0_0_1 = 0 ∷ 0 ∷ 1 ∷ []

-- with room enough; no byte of the message room is written
abbrev pub ListGives : ℕ → Near → Type 0
ListGives t near =
    (room zeroed before after : List ℕ) (back : Near) → working_room ≤ length room → 2 ≤ length before
    → HasListed 7 three word_0_0_1 2 1 1 t room zeroed before after back → (back ≡ near) × (after ≡ before)

abbrev pub EncodeGives : ℕ → ℕ → List ℕ → ℕ → Type 0
EncodeGives number p points k =
    (message before after : List ℕ) (given : ℕ) → length message ≡ k → Encoded p points message before after given → given ≡ number

pub record Refused (number p : ℕ) (points word : List ℕ) (k m l t : ℕ) : Type 0 where
  pub start : (before after : List ℕ) (back : Started) → HasStarted p points word k m l before after back → back.number ≡ number
  pub list : (room zeroed before after : List ℕ) (back : Near) → HasListed p points word k m l t room zeroed before after back
      → back.number ≡ number

-- with room enough
pub record MinuteGives (minute : ℕ) (digits time : List ℕ) : Type 0 where
  pub writes : (d : Departure) (before after : List ℕ) (number : ℕ) → InRange d → d.minute ≡ minute → departure_symbols ≤ length before
      → WritesDeparture d before after number
      → (number ≡ 0) × (drop 3 (take departure_symbols after) ≡ digits)
  pub shows : (d : Departure) (before after : List ℕ) (number : ℕ) → InRange d → d.minute ≡ minute → time_bytes ≤ length before
      → ShowsDeparture d before after number
      → (number ≡ 0) × (take time_bytes after ≡ time)

pub record Figures : Type 0 where
  pub message_5_2_6 : Encodes 7 six (5 ∷ 2 ∷ 6 ∷ []) (6 ∷ 5 ∷ 2 ∷ 4 ∷ 4 ∷ 2 ∷ [])
  pub message_1_3_4 : Encodes 7 six (1 ∷ 3 ∷ 4 ∷ []) (1 ∷ 2 ∷ 4 ∷ 0 ∷ 4 ∷ 2 ∷ [])
  -- no update, weight 1 and height 1: y + 6x
  pub curve_1_2_3 : (c : Calls (at_three three 1)) → Gives c 0 1 1 ((0 ∷ 6 ∷ 0 ∷ 0 ∷ []) ++ (1 ∷ 0 ∷ 0 ∷ 0 ∷ []))
  -- h = 4x^2 + 2x + 1
  pub h_0_0_1 : (h : Seq (symbols 7).ring) → Through (symbols 7).ring 3 (symbols_of 7 three) (symbols_of 7 word_0_0_1) h
      ↔ (h ≡ symbols_of 7 (1 ∷ 2 ∷ 4 ∷ []))
  pub formula_0_0_1 : formula 3 2 1 1 ≡ 1
  -- one update, weight 2 and height 1: 5y + x^2 + 4x + 2
  pub curve_0_0_1 : (c : Calls (at_three word_0_0_1 1)) → Gives c 1 2 1 ((2 ∷ 4 ∷ 1 ∷ 0 ∷ []) ++ (5 ∷ 0 ∷ 0 ∷ 0 ∷ []))
  pub lightest_0_0_1 : (c : Calls (at_three word_0_0_1 1)) → Lightest (symbols 7).ring 1 1 (rows_of (shape_for (at_three word_0_0_1 1)) c.new) 0 2
  pub list_t_3 : ListGives 3 (record { number = 0; count = 0; updates = 1; weight = 2 })
  pub list_t_2 : ListGives 2 (refusal 13)
  -- no update, weight 2 and height 2: y^2
  pub curve_0_0_0 : (c : Calls (at_three (0 ∷ 0 ∷ 0 ∷ []) 2))
      → Gives c 0 2 2 ((0 ∷ 0 ∷ 0 ∷ 0 ∷ 0 ∷ 0 ∷ 0 ∷ []) ++ (0 ∷ 0 ∷ 0 ∷ 0 ∷ 0 ∷ 0 ∷ 0 ∷ []) ++ (1 ∷ 0 ∷ 0 ∷ 0 ∷ 0 ∷ 0 ∷ 0 ∷ []))
  -- in general y^m, of weight m (k - 1)
  pub zero_word : (q : Request) (c : Calls q) → ((s : ℕ) → get_or q.word s 0 ≡ 0) → c.start.number ≡ 0
      → HoldsCurve (shape_for q) c.curve (pow (Series (Series (ring_for q))) (x_s (Series (ring_for q))) q.m)
      × (c.finish.weight ≡ q.m * (q.k - 1))
  pub p_9_gives_1 : (points word : List ℕ) (k m l t : ℕ) → EncodeGives 1 9 points k × Refused 1 9 points word k m l t
  pub n_2_gives_2 : (points word : List ℕ) (k m l t : ℕ) → length points ≡ 2 → EncodeGives 2 7 points k × Refused 2 7 points word k m l t
  pub k_n_gives_4 : (points word : List ℕ) (m l t : ℕ) → 3 ≤ length points → length points ≤ 7 → length word ≡ length points
      → EncodeGives 4 7 points (length points) × Refused 4 7 points word (length points) m l t
  pub l_9_gives_5 : (points word : List ℕ) (k m t : ℕ) → 3 ≤ length points → length points ≤ 7 → length word ≡ length points → 2 ≤ k
      → k < length points
      → Refused 5 7 points word k m 9 t
  -- over the field of 16: from the point 8 on its double has a fifth bit, and 19, that is x^4 + x + 1, is taken off
  pub message_1_2_at_16 : Encodes 16 zero_to_15 (1 ∷ 2 ∷ []) (1 ∷ 3 ∷ 5 ∷ 7 ∷ 9 ∷ 11 ∷ 13 ∷ 15 ∷ 2 ∷ 0 ∷ 6 ∷ 4 ∷ 10 ∷ 8 ∷ 14 ∷ 12 ∷ [])
  pub n_17_gives_2_at_16 : (points word : List ℕ) (k m l t : ℕ) → length points ≡ 17 → EncodeGives 2 16 points k × Refused 2 16 points word k m l t
  pub symbol_16_gives_6_at_16 : (word : List ℕ) (k m l t : ℕ) → length word ≡ 16 → 2 ≤ k → k < 16 → (BadHeights m l → ⊥) → TooLarge 16 word
      → Refused 6 16 zero_to_15 word k m l t
  -- 24:15
  pub minute_1455 : MinuteGives 1455 (1 ∷ 15 ∷ 29 ∷ []) (50 ∷ 52 ∷ 58 ∷ 49 ∷ 53 ∷ [])
  -- 29:59
  pub minute_1799 : MinuteGives 1799 (1 ∷ 27 ∷ 1 ∷ []) (50 ∷ 57 ∷ 58 ∷ 53 ∷ 57 ∷ [])
