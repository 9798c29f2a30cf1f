-- Answers: the text that a reply prints. Rules: section 17.
--   digits i n                the digits of n, if there are no more than i of them
--   decimal n                 n in decimal, without leading zeros
--   comma i                   what stands before number i; joined i ns  the first i numbers
--   commas ns                 the numbers with commas between them
--   message k xs i            message i of those in xs, k symbols each
--   message_lines count k xs  a line for each of the first `count` messages
--   Reply                     the number from the table, and what is printed beside the number 0; reply  made of its parts
--   details number o          the lines after the first
--   answer o                  the text
--   room_for o                so many bytes are enough for it: a number takes at most five, a comma or a line feed one more
--   HasWritten o before after r   what is left and handed back: the text and its length, or nothing where out may be too short or messages are
--                                 missing
use Rattle.std.specs.Prelude.{true, false, ◌⊎◌, List, [], ◌∷◌, ◌++◌, ℕ, zero, suc, ◌+◌, ◌*◌, ◌/◌, ◌%◌, ◌≤◌, ◌<◌, ltb, length, get_or, take, drop}
use Rattle.text.specs.Lines.{bytes, line}

unfoldable pub digits : ℕ → ℕ → List ℕ
digits zero n = []
digits (suc i) n = elim (ltb n 10) [ true ↦ (48 + n) ∷ [] | false ↦ digits i (n / 10) ++ (48 + n % 10) ∷ [] ]

abbrev pub decimal : ℕ → List ℕ
decimal n = digits (suc n) n

unfoldable pub comma : ℕ → List ℕ
comma zero = []
comma (suc i) = bytes ","

unfoldable pub joined : ℕ → List ℕ → List ℕ
joined zero ns = []
joined (suc i) ns = joined i ns ++ (comma i ++ decimal (get_or ns i 0))

abbrev pub commas : List ℕ → List ℕ
commas ns = joined (length ns) ns

abbrev pub message : ℕ → List ℕ → ℕ → List ℕ
message k xs i = take k (drop (i * k) xs)

unfoldable pub message_lines : ℕ → ℕ → List ℕ → List ℕ
message_lines zero k xs = []
message_lines (suc i) k xs = message_lines i k xs ++ line (bytes "message=") (commas (message k xs i))

pub record Reply : Type 0 where
  pub number : ℕ
  pub updates : ℕ
  pub weight : ℕ
  pub count : ℕ
  pub k : ℕ
  pub messages : List ℕ

abbrev pub reply : ℕ → ℕ → ℕ → ℕ → ℕ → List ℕ → Reply
reply number updates weight count k messages =
    record { number = number; updates = updates; weight = weight; count = count; k = k; messages = messages }

unfoldable pub details : ℕ → Reply → List ℕ
details zero o =
    line (bytes "updates=") (decimal o.updates) ++
    (line (bytes "weight=") (decimal o.weight) ++
    (line (bytes "count=") (decimal o.count) ++
    message_lines o.count o.k o.messages))
details (suc number) o = []

abbrev pub answer : Reply → List ℕ
answer o = line (bytes "answer=") (decimal o.number) ++ details o.number o

abbrev pub room_for : Reply → ℕ
room_for o = 52 + o.count * (9 + 6 * o.k)

pub data HasWritten (o : Reply) (before : List ℕ) : List ℕ → ℕ → Type 0 where
  written : room_for o ≤ length before → o.count * o.k ≤ length o.messages
      → HasWritten o before (answer o ++ drop (length (answer o)) before) (length (answer o))
  refused : (length before < room_for o) ⊎ (length o.messages < o.count * o.k) → HasWritten o before before 0
