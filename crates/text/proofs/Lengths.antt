-- A text that can be read is short: at most 294 bytes.
use mathlib.Core.Path.{◌≡◌}
use mathlib.Core.List.{List}
use Prim.Native.Nat.{ℕ, ◌+◌, ◌*◌, ◌≤◌}
use native.Mathlib.Omega.{arith}
use lib.ListN.{length, length-append}
use Rattle.text.specs.Requests.{Numbers, FewNumbers, Optional, Line, Meaning, Readable}
use Rattle.text.specs.Requests.Numbers.{single, more}
use Rattle.text.specs.Requests.Optional.{nothing, given}

optional-short : {other n : ℕ} {text : List ℕ} → Optional other text n → length text ≤ 3
optional-short nothing = omega arith
optional-short (given r) = r.few

numbers-short : {text ns : List ℕ} → Numbers text ns → length text + 1 ≤ 4 * length ns
numbers-short (single r) = omega arith
numbers-short (more r s) = let h = numbers-short s in simp length-append (omega arith)

listed-short : {text ns : List ℕ} → FewNumbers text ns → length text ≤ 123
listed-short r = omega (arith, numbers-short r.numbers)

-- a line is as long as its key, its value, a line feed and the rest
line-long : {key text : List ℕ} {Value Rest : List ℕ → Type 0} (a : Line key Value Rest text)
    → length text ≡ length key + length a.value + 1 + length a.rest
line-long a = rw a.is (simp length-append (omega arith))

pub readable-short : {text : List ℕ} {r : Meaning} → Readable text r → length text ≤ 294
readable-short field =
    let k = field.follows in
    let m = k.follows in
    let l = m.follows in
    let t = l.follows in
    let points = t.follows in
    let word = points.follows in
    let none : length word.rest ≡ 0 = rw word.follows in
    omega (
      arith,
      line-long field,
      line-long k,
      line-long m,
      line-long l,
      line-long t,
      line-long points,
      line-long word,
      optional-short m.means,
      optional-short l.means,
      listed-short points.means,
      listed-short word.means,
    )
