-- What encode relies on where no refusal applies, and the word while it writes it.
use mathlib.Core.Path.{◌≡◌, ◌∙◌}
use mathlib.Core.Logic.{inl, inr}
use mathlib.Core.List.{List}
use Prim.Native.Nat.{ℕ, ◌+◌, ◌≤◌, ◌<◌}
use native.Mathlib.Omega.{arith}
use lib.ListN.{length, get_or, set, length-set}
use lib.Seq.{get_or-set_same, get_or-set_other}
use borrow.Author.Count.{below_more}
use borrow.Author.Rules.{rules}
use Rattle.field.specs.Operations.{Listed}
use Rattle.poly.specs.Table.{First}
use Rattle.poly.specs.Encode.{value_at, encode_table}
use Rattle.poly.specs.Buffers.{AllBelow}
use Rattle.poly.proofs.TableLaws.{first-passed, listed-passed, below-passed}

-- what encode relies on where no refusal applies
pub record Accepted (p : ℕ) (points message word : List ℕ) : Type 0 where
  pub size : Listed p
  pub points_below : AllBelow p points
  pub message_below : AllBelow p message
  pub room : length points ≤ length word

pub accepted : {p : ℕ} {points message word : List ℕ} {n : ℕ} → First (encode_table p points message word) n → n ≡ 0 → Accepted p points message word
accepted {p} {points} {message} {word} first z =
    let (size, (count, (degree, (large, (repeated, (short, _)))))) = first-passed (encode_table p points message word) (search rules) first z in
    record {
      size = listed-passed size;
      points_below = below-passed (λ t. large (inl t));
      message_below = below-passed (λ t. large (inr t));
      room = omega arith;
    }

-- the word after s places: the first s bytes are values, and the rest is as it was
pub record Written (p : ℕ) (points message before : List ℕ) (s : ℕ) (after : List ℕ) : Type 0 where
  pub long : length after ≡ length before
  pub word : (q : ℕ) → q < s → get_or after q 0 ≡ (value_at p message (get_or points q 0)).byte
  pub rest : (q : ℕ) → s ≤ q → get_or after q 0 ≡ get_or before q 0

pub written-more : {p : ℕ} {points message before after : List ℕ} {s v : ℕ} → Written p points message before s after → s < length before
    → v ≡ (value_at p message (get_or points s 0)).byte → Written p points message before (s + 1) (set after s v)
written-more {after = after} {s = s} {v = v} w h e =
    let long = w.long in
    record {
      long = length-set after s v ∙ long;
      word =
          below_more _ s (λ q l. get_or-set_other after s q v 0 (λ z. omega arith) ∙ w.word q l)
          (get_or-set_same after s v 0 (omega arith) ∙ e);
      rest = λ q l. get_or-set_other after s q v 0 (λ z. omega arith) ∙ w.rest q (omega arith);
    }
