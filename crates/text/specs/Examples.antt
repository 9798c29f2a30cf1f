-- The definitions on the whole case of docs/RULES.md, section 17, with m= and l= left empty, on two more answers, and on a number in decimal.
use Rattle.std.specs.Prelude.{◌≡◌, refl, List, [], ◌∷◌, ◌++◌, ℕ, zero, suc, ◌≤◌, ◌<◌, get_or}
use Rattle.std.proofs.Common.{lit≤}
use native.Mathlib.Nat.{le_of_suc-le-suc, not-suc-le-zero}
use Rattle.text.specs.Lines.{bytes, line}
use Rattle.text.specs.Requests.{number_of, Number, FewNumbers, Line, Readable}
use Rattle.text.specs.Requests.Numbers.{single, more}
use Rattle.text.specs.Requests.Optional.{nothing}
use Rattle.text.specs.Answers.{digits, comma, joined, message_lines, reply, details, answer}

-- a number of one digit
digit : (b n : ℕ) → 48 ≤ b → b ≤ 57 → n ≡ number_of (b ∷ []) 1 → n ≤ 255 → Number (b ∷ []) n
digit b n low high is small = record { some = lit≤ tt; few = lit≤ tt; are_digits = first; is = is; small = small }
  where
    first : (i : ℕ) → i < 1 → (48 ≤ get_or (b ∷ []) i 0) × (get_or (b ∷ []) i 0 ≤ 57)
    first zero h = (low, high)
    first (suc i) h = absurd (not-suc-le-zero (le_of_suc-le-suc h))

one : Number (bytes "1") 1
unfolding number_of
one = digit 49 1 (lit≤ tt) (lit≤ tt) refl (lit≤ tt)

two : Number (bytes "2") 2
unfolding number_of
two = digit 50 2 (lit≤ tt) (lit≤ tt) refl (lit≤ tt)

seven : Number (bytes "7") 7
unfolding number_of
seven = digit 55 7 (lit≤ tt) (lit≤ tt) refl (lit≤ tt)

then : (key value rest : List ℕ) {Value Rest : List ℕ → Type 0} → Value value → Rest rest → Line key Value Rest (line key value ++ rest)
then key value rest v r = record { value = value; rest = rest; is = refl; means = v; follows = r }

three : FewNumbers (bytes "1,2,3") (1 ∷ 2 ∷ 3 ∷ [])
unfolding number_of
three = record { numbers = more one (more two (single (digit 51 3 (lit≤ tt) (lit≤ tt) refl (lit≤ tt)))); few = lit≤ tt }

request_example : Readable (bytes "field=7\nk=2\nm=\nl=\nt=2\npoints=1,2,3\nword=1,2,3\n")
    (record { field = 7; k = 2; m = 1; l = 1; t = 2; points = 1 ∷ 2 ∷ 3 ∷ []; word = 1 ∷ 2 ∷ 3 ∷ [] })
request_example =
    then (bytes "field=") (bytes "7") _ seven
    (then (bytes "k=") (bytes "2") _ two
    (then (bytes "m=") [] _ nothing
    (then (bytes "l=") [] _ nothing
    (then (bytes "t=") (bytes "2") _ two
    (then (bytes "points=") (bytes "1,2,3") _ three
    (then (bytes "word=") (bytes "1,2,3") _ three
    refl))))))

answer_example : answer (reply 0 0 1 1 2 (0 ∷ 1 ∷ [])) ≡ bytes "answer=0\nupdates=0\nweight=1\ncount=1\nmessage=0,1\n"
unfolding digits comma joined message_lines details
answer_example = refl

refusal_example : answer (reply 13 0 0 0 2 []) ≡ bytes "answer=13\n"
unfolding digits details
refusal_example = refl

decimal_example : digits 65536 65535 ≡ bytes "65535"
unfolding digits
decimal_example = refl
