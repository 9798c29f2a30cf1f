-- What is written into lent bytes is what is read there, and zeros clear them.
use mathlib.Core.Path.{◌≡◌, refl, sym, ap, ◌∙◌}
use mathlib.Core.List.{List, [], ◌∷◌, ◌++◌}
use Prim.Native.Nat.{ℕ, zero, suc, ◌/◌, ◌%◌, ◌<◌, ◌≤◌}
use native.Mathlib.Decide.{dec_lt}
use native.Mathlib.Omega.{arith}
use lib.ListN.{length, get_or, take, drop, replicate}
use lib.Seq.{set-get_or, length-sets, sets-eq}
use Rattle.poly.specs.Lent.{Zeroed}
use Rattle.poly.proofs.BufferLaws.{untouched-none, zeroed_unique}
use Rattle.rows.specs.Jobs.{no_note}
use Rattle.rows.specs.declared.Note.{Note}
use Rattle.departures.specs.Hearing.Heard.{Refused}
use Rattle.departures.proofs.DepartureLaws.{departure-same}
use Rattle.boards.specs.declared.Back.{Back}
use Rattle.boards.specs.declared.departure_calls.HeardBack.{HeardBack}
use Rattle.boards.specs.Lent.{note_bytes, back_bytes, departure_bytes, heard_bytes, note_of, note_into, back_into, updates_of, finished_of}
use Rattle.boards.specs.Lent.{bytes_of, departure_in, back_of_hear, heard_into, count_in, Cleared}

-- a note

note-front : (note : Note) (xs : List ℕ) → note_bytes ≤ length xs
    → note_into note xs ≡ note.p ∷ note.n ∷ note.k ∷ note.m ∷ note.l ∷ note.r ∷ drop note_bytes xs
note-front note xs h = sets-eq (note.p ∷ note.n ∷ note.k ∷ note.m ∷ note.l ∷ note.r ∷ []) xs 0 h

pub note-kept : (note : Note) (xs : List ℕ) → note_bytes ≤ length xs → note_of (note_into note xs) ≡ note
note-kept note xs h = ap note_of (note-front note xs h)

-- the note that is there, written once more
pub note-same : (xs : List ℕ) → note_into (note_of xs) xs ≡ xs
note-same xs = rw (set-get_or xs 0 0, set-get_or xs 1 0, set-get_or xs 2 0, set-get_or xs 3 0, set-get_or xs 4 0, set-get_or xs 5 0) refl

pub note-long : (note : Note) (xs : List ℕ) → length (note_into note xs) ≡ length xs
note-long note xs = length-sets xs 0 (note.p ∷ note.n ∷ note.k ∷ note.m ∷ note.l ∷ note.r ∷ [])

-- of two notes written one after the other the later one is there
pub note-last : (note other : Note) (xs : List ℕ) → note_bytes ≤ length xs → note_into note (note_into other xs) ≡ note_into note xs
note-last note other xs h =
    note-front note (note_into other xs) (rw (note-long other xs) h)
    ∙ ap (λ ys. note.p ∷ note.n ∷ note.k ∷ note.m ∷ note.l ∷ note.r ∷ drop note_bytes ys) (note-front other xs h)
    ∙ sym (note-front note xs h)

-- what is handed back

back-front : (back : Back) (xs : List ℕ) → back_bytes ≤ length xs
    → back_into back xs ≡ back.updates % 256 ∷ back.updates / 256 ∷ back.weight ∷ back.height ∷ back.count ∷ drop back_bytes xs
back-front back xs h = sets-eq (back.updates % 256 ∷ back.updates / 256 ∷ back.weight ∷ back.height ∷ back.count ∷ []) xs 0 h

pub updates-kept : (back : Back) (xs : List ℕ) → back_bytes ≤ length xs → updates_of (back_into back xs) ≡ back.updates
updates-kept back xs h = ap updates_of (back-front back xs h) ∙ omega arith

pub finished-kept : (number : ℕ) (back : Back) (xs : List ℕ) → back_bytes ≤ length xs
    → finished_of number (back_into back xs) ≡ record { number = number; weight = back.weight; height = back.height }
finished-kept number back xs h = ap (finished_of number) (back-front back xs h)

-- what is heard

heard-front : (back : HeardBack) (xs : List ℕ) → heard_bytes ≤ length xs
    → heard_into back xs ≡ (bytes_of back.departure ++ back.count ∷ []) ++ drop heard_bytes xs
heard-front back xs h = sets-eq (bytes_of back.departure ++ back.count ∷ []) xs 0 h

pub bytes-kept : (back : HeardBack) (xs : List ℕ) → heard_bytes ≤ length xs → take departure_bytes (heard_into back xs) ≡ bytes_of back.departure
bytes-kept back xs h = ap (take departure_bytes) (heard-front back xs h)

pub departure-kept : (back : HeardBack) (xs : List ℕ) → heard_bytes ≤ length xs → departure_in (heard_into back xs) ≡ back.departure
departure-kept back xs h = ap departure_in (heard-front back xs h) ∙ departure-same refl (omega arith) (omega arith)

pub count-kept : (back : HeardBack) (xs : List ℕ) → heard_bytes ≤ length xs → count_in (heard_into back xs) ≡ back.count
count-kept back xs h = ap count_in (heard-front back xs h)

-- zeros

zeroed-cons : {size x : ℕ} {xs ys : List ℕ} → Zeroed size xs ys → Zeroed (suc size) (x ∷ xs) (0 ∷ ys)
zeroed-cons {size} {x} {xs} {ys} z = record { zeros = zeros; rest = record { long = ap suc z.rest.long; same = same } }
  where
    zeros : (q : ℕ) → q < suc size → get_or (0 ∷ ys) q 0 ≡ 0
    zeros zero g = refl
    zeros (suc q) g = z.zeros q (omega arith)

    same : (q : ℕ) → suc size ≤ q → get_or (0 ∷ ys) q 0 ≡ get_or (x ∷ xs) q 0
    same zero g = absurd (omega arith)
    same (suc q) g = z.rest.same q (omega arith)

zeroed-front : (size : ℕ) (xs : List ℕ) → size ≤ length xs → Zeroed size xs (replicate size 0 ++ drop size xs)
zeroed-front zero xs h = record { zeros = λ q g. absurd (omega arith); rest = untouched-none zero xs }
zeroed-front (suc n) [] h = absurd (omega arith)
zeroed-front (suc n) (x ∷ xs) h = zeroed-cons (zeroed-front n xs (omega arith))

-- bytes are cleared by zeros, or where they are too few by nothing
pub cleared-none : {size : ℕ} {xs : List ℕ} → length xs < size → Cleared size xs xs
cleared-none h = record { short = λ g. refl; zeroed = λ g. absurd (omega arith) }

cleared-zeros : (size : ℕ) {xs : List ℕ} → size ≤ length xs → Cleared size xs (replicate size 0 ++ drop size xs)
cleared-zeros size {xs} h = record { short = λ g. absurd (omega arith); zeroed = λ g. zeroed-front size xs h }

pub cleared-note : {xs : List ℕ} → note_bytes ≤ length xs → Cleared note_bytes xs (note_into no_note xs)
cleared-note {xs} h = rw (note-front no_note xs h) (cleared-zeros note_bytes h)

-- what is handed back where a job has none of it
abbrev pub nothing : Back
nothing = record { updates = 0; weight = 0; height = 0; count = 0 }

pub cleared-back : {xs : List ℕ} → back_bytes ≤ length xs → Cleared back_bytes xs (back_into nothing xs)
cleared-back {xs} h = rw (back-front nothing xs h) (cleared-zeros back_bytes h)

-- a refused hear hands back zeros
pub cleared_heard : (number : ℕ) {xs : List ℕ} → heard_bytes ≤ length xs → Cleared heard_bytes xs (heard_into (back_of_hear (Refused number)) xs)
cleared_heard number {xs} h = rw (heard-front (back_of_hear (Refused number)) xs h) (cleared-zeros heard_bytes h)

pub cleared_determined : {size : ℕ} {xs ys zs : List ℕ} → Cleared size xs ys → Cleared size xs zs → ys ≡ zs
cleared_determined {size} {xs} {ys} {zs} a b = go (dec_lt (length xs) size)
  where
    go : Dec (length xs < size) → ys ≡ zs
    go (yes h) = a.short h ∙ sym (b.short h)
    go (no h) = zeroed_unique (a.zeroed (omega arith)) (b.zeroed (omega arith))
