-- Lines at the beginning of a text: how one is found, and that each reading of the text has its value there and goes on after it.
use Rattle.std.proofs.Common.{◌≡◌, ◌≢◌, List, ◌∷◌, ◌++◌, ℕ, suc, ◌+◌, ◌-◌, ◌<◌, length, get_or, take, drop, sym, ap, ◌∙◌, subst}
use Rattle.std.proofs.Common.{arith, add-one, length-drop, length-take, get_or-take, take-append-drop}
use Rattle.std.specs.List.{AllWithin, HoldsAt}
use mathlib.Core.List.{append_cancel_left}
use lib.Seq.{drop-cons, take_all}
use Rattle.text.specs.Requests.{Line}
use Rattle.text.specs.Reading.{Any, Stands}
use Rattle.text.proofs.Seeking.{free_not}
use Rattle.text.proofs.Grammar.{Plain, line-flat, line-parts, line-map}

-- the value goes up to the first line feed after the key
pub line_ends : (key text rest : List ℕ) (end : ℕ) → text ≡ key ++ rest → end < length rest → HoldsAt (λ b. b ≡ 10) rest end
    → AllWithin (λ b. b ≢ 10) rest 0 end
    → Stands key text (take end rest) (take (length rest - (end + 1)) (drop (end + 1) rest))
line_ends key text rest end e h b f =
    let after : rest ≡ take end rest ++ 10 ∷ drop (end + 1) rest =
    sym (take-append-drop end rest)
    ∙ ap (λ (l : List ℕ). take end rest ++ l) (rw (add-one, drop-cons rest end 0 h) (ap (λ (x : ℕ). x ∷ drop (suc end) rest) (b 0))) in
    let whole : take (length rest - (end + 1)) (drop (end + 1) rest) ≡ drop (end + 1) rest =
    take_all (length rest - (end + 1)) (drop (end + 1) rest) (rw length-drop (omega arith)) in
    record {
      is = e ∙ ap (λ (l : List ℕ). key ++ l) (after ∙ rw whole) ∙ sym (line-flat key (take end rest) _);
      free = λ i k n.
          let inside : i < end = omega (arith, length-take end rest) in f i 0 (omega arith) inside (sym (get_or-take end rest i 0 inside) ∙ n);
    }

pub no_line : (key text rest : List ℕ) → text ≡ key ++ rest → AllWithin (λ b. b ≢ 10) rest 0 (length rest) → Line key Any Any text → ⊥
no_line key text rest e f l =
    let after : rest ≡ l.value ++ 10 ∷ l.rest = append_cancel_left key _ _ (sym e ∙ l.is ∙ line-flat key l.value l.rest) in
    free_not 10 l.value l.rest (λ i h k. f i 0 (omega arith) (omega (arith, ap length after)) (ap (λ (xs : List ℕ). get_or xs i 0) after ∙ k))

pub any_line : {key text : List ℕ} {Value Rest : List ℕ → Type 0} → Line key Value Rest text → Line key Any Any text
any_line l = line-map (λ v h. tt) (λ rest h. tt) l

module _ {A : Type 0} {Value : List ℕ → A → Type 0} {x : A} {key text value rest : List ℕ} {Rest : List ℕ → Type 0} (plain : Plain Value)
    (s : Stands key text value rest) (l : Line key (λ v. Value v x) Rest text) where
  same : (l.value ≡ value) × (l.rest ≡ rest)
  same = line-parts key l.value value l.rest rest (plain.free l.value x l.means) s.free (sym l.is ∙ s.is)

  -- each reading of the line has this value, and goes on after it
  pub means : Value value x
  means = subst (λ v. Value v x) same.0 l.means

  pub goes_on : Rest rest
  goes_on = subst Rest same.1 l.follows

pub stands_line : {key text value rest : List ℕ} {Value Rest : List ℕ → Type 0} → Stands key text value rest → Value value → Rest rest
    → Line key Value Rest text
stands_line {value = value} {rest = rest} s v r = record { value = value; rest = rest; is = s.is; means = v; follows = r }
