-- What the functions of the search ask and give. Their curve lies in bytes as a row does; a level gives these bytes back as they were.
--   curve_of S xs           the curve that the bytes xs are
--   slice_of S xs i v       the coefficient of x^v in that curve at y = x^i y, as a polynomial in y
--   RootAt S xs i v c       c is a root of it
--   Laid S xs               they are a curve of which no term weighs more than the width, each coefficient below p
--   Tries S i c xs          the curve is laid, and c is tried as the symbol at x^i
--   Lifted S i c j q xs ys  each of the slots from j to q - 1 took c x^i times the slot above, as it was
--   Shifted S i c xs ys     the bytes ys are what the curve becomes when c is chosen as the symbol at x^i; no other byte is written
--   Received plan points word   k is one more than u; points and symbols are below p, and as many
--   task_for plan points word  the task that they set
--   after                   the messages found that begin with the first k - left bytes of `chosen`, on the curve that they leave
--   with                    those of them that go on with c
--   kept                    the first k bytes of `chosen` as a list of one message, if it has the agreements
--   Room plan count list messages     there is room for the list after `count` messages
--   Wrote                   the list was written after `count` messages, and the number of all is handed back
--   Searches                what a level asks: the curve is laid, and `left` symbols are to be chosen, at least one, after the others
--   Leaves                  what it leaves: the curve and the symbols chosen before as they were, and the messages written
--   plan_of p n k m l t     the plan of a request
--   found_on                all messages found on the curve that bytes are
--   Runs                    what the whole search asks: the curve is laid, and l messages are room enough
--   Ran                     what it leaves: the messages one after the other, the rest as it was, and how many they are
--   FoundCurve              what interpolation leaves: the curve of demand 2 in the lent bytes, with its weight and the updates made
use Rattle.std.specs.Prelude.{◌≡◌, ◌⊎◌, List, [], ◌∷◌, ℕ, suc, ◌+◌, ◌-◌, ◌*◌, ◌≤◌, ◌<◌, length, get_or, take}
use Rattle.std.proofs.Math.Decide.{dec_le}
use Rattle.std.proofs.lemmas.List.Edits.{sets}
use Rattle.field.specs.Symbols.{symbol, symbols, sum_of, product_of}
use Rattle.field.specs.Choices.{choose}
use Rattle.field.specs.Operations.{Listed}
use Rattle.poly.specs.Polynomials.{Seq, value}
use Rattle.poly.specs.Buffers.{AllBelow}
use Rattle.poly.specs.Limits.{working_room}
use Rattle.poly.specs.Lent.{Untouched}
use Rattle.curves.specs.Curves.{Curve, Under}
use Rattle.rows.specs.Bytes.{shape, curve_bytes, rows_of, HoldsCurve}
use Rattle.rows.specs.Work.{Fine}
use Rattle.rows.specs.Jobs.{TheCurve}
use Rattle.rows.specs.declared.Shape.{Shape}
use Rattle.near.specs.Lists.{Task, Spelt, polynomial, agreements}
use Rattle.near.specs.Job.{task_of, flat, RuleUpdates}
use Rattle.near.specs.Search.{chosen, slice, level, opened, found}
use Rattle.near.specs.declared.Weighed.{Weighed}
use Rattle.near.specs.declared.search.Plan.{Plan}

abbrev pub curve_of : (S : Shape) → List ℕ → Curve (symbols S.p).ring
curve_of S xs = rows_of S xs 0

abbrev pub slice_of : (S : Shape) → List ℕ → ℕ → ℕ → Seq (symbols S.p).ring
slice_of S xs i v = slice (symbols S.p).ring i v (curve_of S xs)

abbrev pub RootAt : (S : Shape) → List ℕ → ℕ → ℕ → ℕ → Type 0
RootAt S xs i v c = value (symbols S.p).ring (symbol S.p c) (suc S.l) (slice_of S xs i v) ≡ symbol S.p 0

pub record Laid (S : Shape) (xs : List ℕ) : Type 0 where
  pub fine : Fine S
  pub room : curve_bytes S ≤ length xs
  pub below : (q : ℕ) → q < curve_bytes S → get_or xs q 0 < S.p
  pub light : Under (symbols S.p).ring S.u (suc S.width) 0 (curve_of S xs)

pub record Tries (S : Shape) (i c : ℕ) (xs : List ℕ) : Type 0 where
  pub laid : Laid S xs
  pub next : i ≤ S.u
  pub small : c < S.p

pub record Lifted (S : Shape) (i c j q : ℕ) (xs ys : List ℕ) : Type 0 where
  pub laid : Laid S ys
  pub slots : (a e : ℕ) → j ≤ a → a < q → i ≤ e
      → curve_of S ys a e ≡ sum_of S.p (curve_of S xs a e) (product_of S.p (symbol S.p c) (curve_of S xs (suc a) (e - i)))
  pub others : (a e : ℕ) → (a < j) ⊎ ((q ≤ a) ⊎ (e < i)) → curve_of S ys a e ≡ curve_of S xs a e
  pub rest : Untouched (curve_bytes S) xs ys

pub record Shifted (S : Shape) (i c : ℕ) (xs ys : List ℕ) : Type 0 where
  pub laid : Laid S ys
  pub curve : curve_of S ys ≡ chosen (symbols S.p).ring (suc S.l) i (symbol S.p c) (curve_of S xs)
  pub rest : Untouched (curve_bytes S) xs ys

pub record Received (plan : Plan) (points word : List ℕ) : Type 0 where
  pub size : Listed plan.shape.p
  pub degree : plan.k ≡ suc plan.shape.u
  pub same : length word ≡ length points
  pub points_below : AllBelow plan.shape.p points
  pub word_below : AllBelow plan.shape.p word

module _ (plan : Plan) (points word : List ℕ) where
  abbrev pub task_for : Task (symbols plan.shape.p)
  task_for = task_of plan.shape.p points word plan.k plan.t

  abbrev pub after : (curve chosen : List ℕ) → ℕ → List (List ℕ)
  after curve chosen left =
      level task_for (suc plan.shape.l) (suc plan.shape.width) left (take (plan.k - left) chosen) (curve_of plan.shape curve)

  abbrev pub with : (curve chosen : List ℕ) → ℕ → ℕ → List (List ℕ)
  with curve chosen left c =
      opened task_for (suc plan.shape.l) (suc plan.shape.width) (left - 1) (take (plan.k - left) chosen) (curve_of plan.shape curve) c

  abbrev pub kept : List ℕ → List (List ℕ)
  kept chosen =
      choose (dec_le plan.t (agreements task_for (length points) (polynomial task_for (take plan.k chosen)))) (take plan.k chosen ∷ []) []

  pub record Searches (curve chosen : List ℕ) (left : ℕ) : Type 0 where
    pub received : Received plan points word
    pub laid : Laid plan.shape curve
    pub some : 0 < left
    pub most : left ≤ plan.k
    pub long : plan.k ≤ length chosen
    pub spelt : Spelt plan.shape.p (plan.k - left) (take (plan.k - left) chosen)

pub record Room (plan : Plan) (count : ℕ) (list : List (List ℕ)) (messages : List ℕ) : Type 0 where
  pub enough : (count + length list) * plan.k ≤ length messages

pub record Wrote (plan : Plan) (count : ℕ) (list : List (List ℕ)) (before after : List ℕ) (r : ℕ) : Type 0 where
  pub total : r ≡ count + length list
  pub written : after ≡ sets before (count * plan.k) (flat list)

pub record Leaves (plan : Plan) (left count : ℕ) (list : List (List ℕ)) (curve curve' chosen chosen' messages messages' : List ℕ)
    (r : ℕ) : Type 0 where
  pub same : curve' ≡ curve
  pub front : take (plan.k - left) chosen' ≡ take (plan.k - left) chosen
  pub wrote : Wrote plan count list messages messages' r

abbrev pub plan_of : ℕ → ℕ → ℕ → ℕ → ℕ → ℕ → Plan
plan_of p n k m l t = record { shape = shape p n k m l; k = k; t = t }

abbrev pub found_on : Plan → List ℕ → List ℕ → List ℕ → List (List ℕ)
found_on plan points word curve = found (task_for plan points word) (suc plan.shape.l) (suc plan.shape.width) (curve_of plan.shape curve)

pub record Runs (plan : Plan) (points word curve messages : List ℕ) : Type 0 where
  pub received : Received plan points word
  pub laid : Laid plan.shape curve
  pub few : length (found_on plan points word curve) ≤ plan.shape.l
  pub room : plan.shape.l * plan.k ≤ length messages

pub record Ran (k : ℕ) (list : List (List ℕ)) (before after : List ℕ) (r : ℕ) : Type 0 where
  pub count : r ≡ length list
  pub written : take (length list * k) after ≡ flat list
  pub rest : Untouched (length list * k) before after

pub record FoundCurve (p : ℕ) (points word : List ℕ) (k m l : ℕ) (room_before room_after before after : List ℕ) (back : Weighed) : Type 0 where
  pub curve : Curve (symbols p).ring
  pub smallest : TheCurve p points word k m l curve
  pub bytes : HoldsCurve (shape p (length points) k m l) after curve
  pub long : length after ≡ length before
  pub weight_is : back.weight ≡ smallest.weight
  pub updates_are : RuleUpdates p points word k m l back.updates
  pub rest : Untouched working_room room_before room_after
