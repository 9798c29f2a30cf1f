-- Each call's contract determines its number and every byte that was lent: two outcomes for the same arguments are the same.
-- Encode, write and show have their job's own contract, and with it its theorem.
use mathlib.Core.Path.{◌≡◌, sym, ap, ◌∙◌}
use mathlib.Core.Logic.{dite}
use mathlib.Core.List.{List}
use Prim.Native.Nat.{ℕ}
use native.Mathlib.Decide.{ℕ_discrete}
use Rattle.poly.proofs.TableLaws.{first_determined}
use Rattle.rows.proofs.Determined.{start_determined, turn_determined, finish_determined}
use Rattle.near.proofs.Determined.{list_determined}
use Rattle.departures.proofs.Determined.{reading_determined, heard_determined}
use Rattle.boards.specs.Lent.{departure_into, back_of_hear, heard_into}
use Rattle.boards.specs.Lent.{note_into, back_of_turn, back_of_finish, back_of_list, back_into}
use Rattle.boards.specs.Calls.{StartCall, TurnCall, FinishCall, ListCall, start_call_table, turn_call_table, finish_call_table, list_call_table}
use Rattle.boards.specs.DepartureCalls.{ReadCall, HearCall, read_call_table, hear_call_table}
use Rattle.boards.proofs.LentLaws.{cleared_determined}

pub start_call_determined : {p : ℕ} {points word : List ℕ} {k m l : ℕ} {rows rows₁ rows₂ note note₁ note₂ : List ℕ} {a b : ℕ}
    → StartCall p points word k m l rows rows₁ note note₁ a → StartCall p points word k m l rows rows₂ note note₂ b
    → (a ≡ b) × (rows₁ ≡ rows₂) × (note₁ ≡ note₂)
start_call_determined {p} {points} {word} {k} {m} {l} {rows} {note = note} {a = a} {b} f g =
    let same : a ≡ b = first_determined (start_call_table p points word k m l rows note) a b f.first g.first in
    dite (ℕ_discrete a 0)
    (λ z.
    let (job, has, e, n) = f.done z in
    let (job', has', e', n') = g.done (sym same ∙ z) in
    let one = start_determined has has' in
    (same, one.1, n ∙ ap (λ j. note_into j.note note) one.0 ∙ sym n'))
    (λ n.
    let (r, c) = f.refused n in
    let (r', c') = g.refused (λ e. n (same ∙ e)) in
    (same, r ∙ sym r', cleared_determined c c'))

pub turn_call_determined : {allowance : ℕ} {note note₁ note₂ rows rows₁ rows₂ back back₁ back₂ : List ℕ} {a b : ℕ}
    → TurnCall allowance note note₁ rows rows₁ back back₁ a → TurnCall allowance note note₂ rows rows₂ back back₂ b
    → (a ≡ b) × (note₁ ≡ note₂) × (rows₁ ≡ rows₂) × (back₁ ≡ back₂)
turn_call_determined {note = note} {rows = rows} {back = back} f g =
    let same = first_determined (turn_call_table note rows back) f.entry g.entry f.first g.first in
    dite (ℕ_discrete f.entry 0)
    (λ z.
    let (job, has, e, n, q) = f.done z in
    let (job', has', e', n', q') = g.done (sym same ∙ z) in
    let one = turn_determined has has' in (
      e ∙ ap (λ j. j.number) one.0 ∙ sym e',
      n ∙ ap (λ j. note_into j.note note) one.0 ∙ sym n',
      one.1,
      q ∙ ap (λ j. back_into (back_of_turn j) back) one.0 ∙ sym q',
    ))
    (λ x.
    let (e, n, r, c) = f.refused x in
    let (e', n', r', c') = g.refused (λ z. x (same ∙ z)) in
    (e ∙ same ∙ sym e', n ∙ sym n', r ∙ sym r', cleared_determined c c'))

pub finish_call_determined : {note rows curve curve₁ curve₂ back back₁ back₂ : List ℕ} {a b : ℕ}
    → FinishCall note rows curve curve₁ back back₁ a → FinishCall note rows curve curve₂ back back₂ b
    → (a ≡ b) × (curve₁ ≡ curve₂) × (back₁ ≡ back₂)
finish_call_determined {note} {rows} {curve} {back = back} {a = a} {b} f g =
    let same : a ≡ b = first_determined (finish_call_table note rows curve back) a b f.first g.first in
    dite (ℕ_discrete a 0)
    (λ z.
    let (job, has, e, q) = f.done z in
    let (job', has', e', q') = g.done (sym same ∙ z) in
    let one = finish_determined has has' in (
      same,
      one.1,
      q ∙ ap (λ j. back_into (back_of_finish j) back) one.0 ∙ sym q',
    ))
    (λ n.
    let (r, c) = f.refused n in
    let (r', c') = g.refused (λ e. n (same ∙ e)) in
    (same, r ∙ sym r', cleared_determined c c'))

pub list_call_determined : {p : ℕ} {points word : List ℕ} {k m l t : ℕ} {room room₁ room₂ messages messages₁ messages₂ back back₁ back₂ : List ℕ}
    {a b : ℕ}
    → ListCall p points word k m l t room room₁ messages messages₁ back back₁ a
    → ListCall p points word k m l t room room₂ messages messages₂ back back₂ b
    → (a ≡ b) × (room₁ ≡ room₂) × (messages₁ ≡ messages₂) × (back₁ ≡ back₂)
list_call_determined {p} {points} {word} {k} {m} {l} {t} {room} {messages = messages} {back = back} f g =
    let same = first_determined (list_call_table p points word k m l t room messages back) f.entry g.entry f.first g.first in
    dite (ℕ_discrete f.entry 0)
    (λ z.
    let (job, has, e, q) = f.done z in
    let (job', has', e', q') = g.done (sym same ∙ z) in
    let one = list_determined has has' in (
      e ∙ ap (λ j. j.number) one.0 ∙ sym e',
      one.1,
      one.2,
      q ∙ ap (λ j. back_into (back_of_list j) back) one.0 ∙ sym q',
    ))
    (λ x.
    let (e, r, n, c) = f.refused x in
    let (e', r', n', c') = g.refused (λ z. x (same ∙ z)) in
    (e ∙ same ∙ sym e', r ∙ sym r', n ∙ sym n', cleared_determined c c'))

pub read_call_determined : {message departure departure₁ departure₂ : List ℕ} {a b : ℕ} → ReadCall message departure departure₁ a
    → ReadCall message departure departure₂ b
    → (a ≡ b) × (departure₁ ≡ departure₂)
read_call_determined {message} {departure} {a = a} {b} f g =
    let same : a ≡ b = first_determined (read_call_table message departure) a b f.first g.first in
    dite (ℕ_discrete a 0)
    (λ z.
    let (job, has, e, d) = f.done z in
    let (job', has', e', d') = g.done (sym same ∙ z) in
    (same, d ∙ ap (λ j. departure_into j.departure departure) (reading_determined has has') ∙ sym d'))
    (λ n. (same, cleared_determined (f.refused n) (g.refused (λ e. n (same ∙ e)))))

pub hear_call_determined : {points word : List ℕ} {m l t : ℕ} {room room₁ room₂ heard heard₁ heard₂ : List ℕ} {a b : ℕ}
    → HearCall points word m l t room room₁ heard heard₁ a → HearCall points word m l t room room₂ heard heard₂ b
    → (a ≡ b) × (room₁ ≡ room₂) × (heard₁ ≡ heard₂)
hear_call_determined {points} {word} {m} {l} {t} {room} {heard = heard} f g =
    let same = first_determined (hear_call_table points word m l t room heard) f.entry g.entry f.first g.first in
    dite (ℕ_discrete f.entry 0)
    (λ z.
    let (job, has, e, q) = f.done z in
    let (job', has', e', q') = g.done (sym same ∙ z) in
    let one = heard_determined has has' in (
      e ∙ ap (λ j. (back_of_hear j).number) one.0 ∙ sym e',
      one.1,
      q ∙ ap (λ j. heard_into (back_of_hear j) heard) one.0 ∙ sym q',
    ))
    (λ x.
    let (e, r, c) = f.refused x in
    let (e', r', c') = g.refused (λ z. x (same ∙ z)) in
    (e ∙ same ∙ sym e', r ∙ sym r', cleared_determined c c'))
