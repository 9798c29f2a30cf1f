-- Requests: which texts can be read, and what they mean. Rules: section 17.
--   number_of text i         the number that the first i bytes write, decimal digits
--   Number text n            one to three digits, leading zeros allowed, that write n; n is at most 255
--   Numbers text ns          numbers with commas between them, one at least
--   FewNumbers text ns       the same, at most as many as there can be points
--   Optional other text n    a number, or nothing, which means `other`
--   Line key Value Rest text   a line of this key with a value of Value, and then a text of Rest
--   Form                     a line's key, and which values it may have
--   Lines forms text         a line of each form, in their order, and nothing more
--   Meaning                  what a request asks for
--   lines r                  the forms of the seven lines that mean r
--   Readable text r          the text can be read, and means r
--   stored r                 the request that means r
--   HasRead text back        what is handed back: the request, or nothing where the text means nothing
use Rattle.std.specs.Prelude.{◌≡◌, List, [], ◌∷◌, ◌++◌, ℕ, zero, suc, ◌+◌, ◌-◌, ◌*◌, ◌≤◌, ◌<◌, length, get_or, Option, Some, None}
use Rattle.poly.specs.Limits.{field_most}
use Rattle.text.specs.Lines.{bytes, line}
use Rattle.text.specs.declared.Request.{Request}

unfoldable pub number_of : List ℕ → ℕ → ℕ
number_of text zero = 0
number_of text (suc i) = number_of text i * 10 + (get_or text i 0 - 48)

pub record Number (text : List ℕ) (n : ℕ) : Type 0 where
  pub some : 1 ≤ length text
  pub few : length text ≤ 3
  pub are_digits : (i : ℕ) → i < length text → (48 ≤ get_or text i 0) × (get_or text i 0 ≤ 57)
  pub is : n ≡ number_of text (length text)
  pub small : n ≤ 255

pub data Numbers : List ℕ → List ℕ → Type 0 where
  single : {text : List ℕ} {n : ℕ} → Number text n → Numbers text (n ∷ [])
  more : {first rest : List ℕ} {n : ℕ} {ns : List ℕ} → Number first n → Numbers rest ns → Numbers (first ++ (bytes "," ++ rest)) (n ∷ ns)

pub record FewNumbers (text ns : List ℕ) : Type 0 where
  pub numbers : Numbers text ns
  pub few : length ns ≤ field_most

pub data Optional (other : ℕ) : List ℕ → ℕ → Type 0 where
  nothing : Optional other [] other
  given : {text : List ℕ} {n : ℕ} → Number text n → Optional other text n

pub record Line (key : List ℕ) (Value Rest : List ℕ → Type 0) (text : List ℕ) : Type 0 where
  pub value : List ℕ
  pub rest : List ℕ
  pub is : text ≡ line key value ++ rest
  pub means : Value value
  pub follows : Rest rest

pub record Form : Type 1 where
  pub key : List ℕ
  pub Value : List ℕ → Type 0

abbrev pub Lines : List Form → List ℕ → Type 0
Lines [] text = text ≡ []
Lines (form ∷ forms) text = Line form.key form.Value (Lines forms) text

pub record Meaning : Type 0 where
  pub field : ℕ
  pub k : ℕ
  pub m : ℕ
  pub l : ℕ
  pub t : ℕ
  pub points : List ℕ
  pub word : List ℕ

abbrev pub lines : Meaning → List Form
lines r =
    record { key = bytes "field="; Value = λ v. Number v r.field } ∷
    record { key = bytes "k="; Value = λ v. Number v r.k } ∷
    record { key = bytes "m="; Value = λ v. Optional 1 v r.m } ∷
    record { key = bytes "l="; Value = λ v. Optional r.m v r.l } ∷
    record { key = bytes "t="; Value = λ v. Number v r.t } ∷
    record { key = bytes "points="; Value = λ v. FewNumbers v r.points } ∷
    record { key = bytes "word="; Value = λ v. FewNumbers v r.word } ∷
    []

abbrev pub Readable : List ℕ → Meaning → Type 0
Readable text r = Lines (lines r) text

abbrev pub stored : Meaning → Request
stored r = record {
  field = r.field;
  k = r.k;
  m = r.m;
  l = r.l;
  t = r.t;
  points = r.points;
  word = r.word;
}

pub data HasRead (text : List ℕ) : Option Request → Type 0 where
  readable : (r : Meaning) → Readable text r → HasRead text (Some (stored r))
  unreadable : ((r : Meaning) → Readable text r → ⊥) → HasRead text None
