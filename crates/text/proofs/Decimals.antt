-- The decimal of a number below 65536 is std's, which itoa writes.
use Rattle.std.proofs.Common.{◌≡◌, ℕ, suc, ◌<◌, arith}
use Rattle.std.proofs.lemmas.Fmt.{AppendsLastDigit, decimal_from_appends, length-decimal-le_succ}
use Rattle.std.specs.Fmt as fmt
use Rattle.std.proofs.lemmas.Bool.{lt-ltb, le-ltb}
use Rattle.text.specs.Answers.{digits, decimal}

appends : AppendsLastDigit digits
unfolding digits
appends = record { one = λ i n h. rw (lt-ltb n 10 h, digits); more = λ i n h. rw (le-ltb n 10 h, digits) }

pub decimal_std : (n : ℕ) → n < 65536 → decimal n ≡ fmt.decimal n
decimal_std n h = decimal_from_appends digits appends (suc n) n (omega arith) (omega (arith, length-decimal-le_succ n (omega arith)))
