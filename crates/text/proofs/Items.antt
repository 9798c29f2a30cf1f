-- Numbers read one after the other, each up to the next comma. A list of the whole text is the numbers read so far and a list of what is left,
-- both ways.
use Rattle.std.proofs.Common.{◌≡◌, ◌==◌, Bool, true, false, List, [], ◌∷◌, ◌++◌, ℕ, ◌≤◌, ◌<◌, length, get_or, Some, refl, sym, ap, ◌∙◌, subst}
use Rattle.std.proofs.Common.{arith, append-nil, length-append}
use Rattle.std.proofs.lemmas.Bool.{eqb-true}
use Rattle.std.specs.Bool.{MatchBool}
use Rattle.std.specs.Fn.{ComputesKey}
use Rattle.std.specs.List.{IsFirstMatchOrLen}
use Rattle.std.specs.Slice.Iter.{split_rest, split_done, split_callee, split_steps}
use Rattle.std.specs.declared.slice.Split.{Split}
use mathlib.Core.Bool.{true≢false}
use denote.Param.Members.{Mut}
use denote.Ref.{Bor}
use lib.ListN.{get_or-append}
use lib.Seq.{append_snoc, get_or-append_seam}
use Rattle.poly.specs.Limits.{field_most}
use Rattle.text.specs.Requests.{Number, Numbers, FewNumbers}
use Rattle.text.specs.Requests.Numbers.{single, more}
use Rattle.text.specs.Reading.{Free}
use Rattle.text.proofs.Numbers.{number-same, numbers-some, numbers-last, numbers-more}

-- the text goes up to its first comma, and `left` follows; or it is done, and has no comma
pub record Part (text part : List ℕ) (done : Bool) (left : List ℕ) : Type 0 where
  pub free : Free 44 part
  pub is : MatchBool done (text ≡ part) (text ≡ part ++ 44 ∷ left)

first_part : (text part left : List ℕ) (done : Bool) → MatchBool done (text ≡ part) ((y : ℕ) × (text ≡ part ++ (y ∷ left)))
    → IsFirstMatchOrLen (λ b. b == 44) text (length part) → Part text part done left
first_part text part left true e f = record {
  free = λ i h k. let g : (get_or part i 0 == 44) ≡ false = rw e at (f.0 i 0 (omega arith) h) in absurd (true≢false (rw k at g));
  is = e;
}
first_part text part left false (y, e) f =
    let comma : y ≡ 44 =
    eqb-true y 44 (rw (e, get_or-append_seam part y left 0) at (f.1 (rw (e, length-append) (omega arith)) 0)) in
    record {
      free = λ i h k.
          let g : (get_or part i 0 == 44) ≡ false = rw (e, get_or-append part (y ∷ left) 0 i h) at (f.0 i 0 (omega arith) h) in
          absurd (true≢false (rw k at g));
      is = rw comma at e;
    }

-- what a split at the commas gives next
pub next_part : {F : Type 0} {g : Mut F (Bor ℕ × Unit {0}) Bool} (s t : Split ℕ F) (x : Bor (List ℕ)) → split_steps g s (Some x) t
    → ComputesKey g (λ b. b == 44) (split_callee s) → Part (split_rest s) x.now (split_done t) (split_rest t)
next_part s t x h k = first_part _ _ _ _ h.1 (h.2 (λ b. b == 44) k).1

-- the lists of what is left to read
abbrev pub Left : Bool → List ℕ → List ℕ → Type 0
Left true text ns = ns ≡ []
Left false text ns = Numbers text ns

pub record SoFar (text read : List ℕ) (done : Bool) (left : List ℕ) : Type 0 where
  pub few : length read ≤ field_most
  pub whole : (ns : List ℕ) → Left done left ns → Numbers text (read ++ ns)
  pub parts : (ns : List ℕ) → Numbers text ns → (ms : List ℕ) × (ns ≡ read ++ ms) × Left done left ms

pub none_yet : (text : List ℕ) → SoFar text [] false text
none_yet text = record { few = omega arith; whole = λ ns r. r; parts = λ ns r. (ns, refl, r) }

pub all_read : {text read left : List ℕ} → SoFar text read true left → FewNumbers text read
all_read {text} {read} so = record { numbers = subst (Numbers text) (append-nil read) (so.whole [] refl); few = so.few }

join : {text part left : List ℕ} (done : Bool) {n : ℕ} {ns : List ℕ} → Part text part done left → Number part n → Left done left ns
    → Numbers text (n ∷ ns)
join true p r e = rw (p.is, e) (single r)
join false p r s = rw p.is (more r s)

-- the first number is in the part, and the others are what is left
record Begun (part : List ℕ) (done : Bool) (left ns : List ℕ) : Type 0 where
  n : ℕ
  others : List ℕ
  is : ns ≡ n ∷ others
  head : Number part n
  tail : Left done left others

parted : {text part left : List ℕ} (done : Bool) {ns : List ℕ} → Part text part done left → Numbers text ns → Begun part done left ns
parted true p s = let q = numbers-last p.free (rw p.is at s) in record { n = q.0; others = []; is = q.1; head = q.2; tail = refl }
parted {part = part} {left = left} false p s =
    let q = numbers-more part left p.free p.is s in record { n = q.n; others = q.others; is = q.is; head = q.head; tail = q.tail }

module _ {text read left part next : List ℕ} {done : Bool} (so : SoFar text read false left) (p : Part left part done next) where
  pub more_items : (n : ℕ) → length read < field_most → Number part n → SoFar text (read ++ n ∷ []) done next
  more_items n h r = record {
    few = rw length-append (omega arith);
    whole = λ ns s. rw append_snoc (so.whole (n ∷ ns) (join done p r s));
    parts = λ ns s.
        let a = so.parts ns s in
        let b = parted done p a.2 in (
          b.others,
          a.1 ∙ ap (λ (l : List ℕ). read ++ l) (b.is ∙ ap (λ (x : ℕ). x ∷ b.others) (number-same b.head r)) ∙ sym (append_snoc read n b.others),
          b.tail,
        );
  }

  pub no_item : ((n : ℕ) → Number part n → ⊥) → (ns : List ℕ) → FewNumbers text ns → ⊥
  no_item f ns r = let b = parted done p (so.parts ns r.numbers).2 in f b.n b.head

pub too-many : {text read left : List ℕ} → SoFar text read false left → field_most ≤ length read → (ns : List ℕ) → FewNumbers text ns → ⊥
too-many so h ns r =
    let a = so.parts ns r.numbers in omega (arith, r.few, simp length-append at (ap length a.1), numbers-some a.2)
