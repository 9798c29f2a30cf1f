-- Runs, one turn after the other: on any rows that may enter a turn they keep what a turn keeps, and from fresh rows they go well (demand 3).
use mathlib.Core.Path.{◌≡◌, refl, ap, ap₂}
use mathlib.Core.Logic.{inl, inr}
use mathlib.Core.List.{List, [], ◌∷◌, ◌++◌}
use Prim.Native.Nat.{ℕ, suc, ◌+◌, ◌*◌, ◌≤◌, ◌<◌}
use native.Mathlib.Omega.{arith}
use lib.ListN.{length}
use native.Mathlib.Decide.{dec_lt, ℕ_discrete}
use Rattle.field.specs.Field.{Field, FieldLaws}
use Rattle.curves.specs.Curves.{Curve, LeadsAt}
use Rattle.curves.specs.Turns.{Outcome, stops, Turn}
use Rattle.curves.specs.Entry.{Sound}
use Rattle.curves.proofs.Promises.{Preserved, allowed, Fresh, after, Run, none, turn, Promised}
use Rattle.curves.proofs.Spans.{same_refl, same_trans}
use Rattle.curves.proofs.Turns.{turn-keeps, turn_exists}
use Rattle.curves.proofs.Count.{cost, Good, good-begins, Spent, spent-map, Served, turn_serves}

module _ {F : Field} (Φ : FieldLaws F) {u W l : ℕ} where
  pub run-keeps : {r : ℕ} {list : List ℕ} {rows : ℕ → Curve F.ring} {o : Outcome F} → r ≤ suc l → Sound F.ring u W l r rows
      → Run F u l list rows r o → Preserved F u W l rows o
  run-keeps h g (none {rows = rows}) = record { inside = h; sound = g; same = same_refl F.ring (suc l) rows }
  run-keeps h g (turn {rows = rows} {o = o} {p = p} t more) =
      let k = turn-keeps Φ h g t in
      let m = run-keeps k.inside k.sound more in
      record { inside = m.inside; sound = m.sound; same = same_trans F.ring (suc l) rows o.rows p.rows k.same m.same }

  pub run_exists : (list : List ℕ) (r : ℕ) (rows : ℕ → Curve F.ring) → r ≤ suc l → Sound F.ring u W l r rows
      → (o : Outcome F) × Run F u l list rows r o
  run_exists [] r rows h g = (stops F 0 rows r, none)
  run_exists (a ∷ list) r rows h g =
      let t = turn_exists Φ a r rows h g in
      let k = turn-keeps Φ h g t.1 in
      let m = run_exists list t.0.row t.0.rows k.inside k.sound in
      (after F t.0 m.0, turn t.1 m.1)

pub allowed-then : (list : List ℕ) (a : ℕ) → allowed (list ++ (a ∷ [])) ≡ allowed list + a
unfolding allowed ◌++◌
allowed-then [] a = omega arith
allowed-then (c ∷ list) a = let e = allowed-then list a in omega arith

module _ {F : Field} where
  after-none : (o : Outcome F) (rows : ℕ → Curve F.ring) (r : ℕ) → after F o (stops F 0 o.rows o.row) ≡ after F (stops F 0 rows r) o
  after-none o rows r = ap₂ (λ (m n : ℕ). record { number = m; rows = o.rows; row = o.row; updates = n }) (omega arith) (omega arith)

  after-after : (o p q : Outcome F) → after F o (after F p q) ≡ after F (after F o p) q
  after-after o p q = ap₂ (λ (m n : ℕ). record { number = m; rows = q.rows; row = q.row; updates = n }) (omega arith) (omega arith)

  -- one more turn at the end
  pub run-then : {u l r a : ℕ} {list : List ℕ} {rows : ℕ → Curve F.ring} {o p : Outcome F} → Run F u l list rows r o
      → Turn F u l a o.rows o.row p → Run F u l (list ++ (a ∷ [])) rows r (after F o p)
  unfolding ◌++◌
  run-then {p = p} (none {rows = rows} {r = r}) t = rw (after-none p rows r) at (turn t none)
  run-then {p = q} (turn {o = o} {p = p} s more) t = rw (after-after o p q) at (turn s (run-then more t))

module _ {F : Field} (Φ : FieldLaws F) {u W l : ℕ} {b : ℕ → ℕ} where
  -- work, and work after it
  serves-after : {r left a c : ℕ} {o p : Outcome F} (x : Served F u W l b r left a o) → Served F u W l b o.row x.remains c p
      → Served F u W l b r left (a + c) (after F o p)
  serves-after {a = a} {c = c} {o = o} {p = p} x y =
      record {
        number = omega arith;
        onward = omega arith;
        remains = y.remains;
        count = omega arith;
        good = y.good;
        spent = go x.spent y.spent;
      }
    where
      go : Spent l o.row o.updates a x.remains → Spent l p.row p.updates c y.remains
          → Spent l p.row (o.updates + p.updates) (a + c) y.remains
      go (inl e) z = let k = y.good.inside in inl (omega arith)
      go (inr (e, m)) z = spent-map (λ f. omega arith) z

  run_serves : {r left a : ℕ} {list : List ℕ} {rows : ℕ → Curve F.ring} {o p : Outcome F} → Good F.ring u W l b r left rows
      → Turn F u l a rows r o → Run F u l list o.rows o.row p
      → Served F u W l b r left (a + allowed list) (after F o p)
  unfolding allowed
  run_serves g t none =
      let x = turn_serves Φ g t in
      record {
        number = omega arith;
        onward = x.onward;
        remains = x.remains;
        count = omega arith;
        good = x.good;
        spent = spent-map (λ e. omega arith) x.spent;
      }
  run_serves {r = r} g t (turn {r = r'} q more) = let x = turn_serves Φ g t in serves-after x (run_serves {r = r'} x.good q more)

module _ {F : Field} (Φ : FieldLaws F) {u W l : ℕ} {b : ℕ → ℕ} {start : ℕ → Curve F.ring}
    (fresh : (i : ℕ) → i ≤ l → Fresh F.ring u W (b i) i (start i)) where
  -- before the first row
  fresh-sound : Sound F.ring u W l 0 start
  fresh-sound =
      record {
        light = λ i k. (fresh i k).within;
        nonzero = λ i k z. (fresh i k).top (z i (fresh i k).degree);
        low = λ i k m j e x. (fresh i k).height j e (omega arith);
        high = λ i k m. (fresh i k).height;
        own = λ i k m. absurd (omega arith);
      }

  fresh-lead : LeadsAt F.ring u 0 (start 0)
  fresh-lead = let f = fresh 0 (omega arith) in
      (f.degree + u * 0, record { degree = f.degree; weight = refl; nonzero = f.top; rest = λ j i le h. go f j i le h (ℕ_discrete j 0) })
    where
      go : (f : Fresh F.ring u W (b 0) 0 (start 0)) (j i : ℕ) → f.degree + u * 0 ≤ i + u * j → (i + u * j ≤ f.degree + u * 0 → 1 ≤ j)
          → Dec (j ≡ 0) → start 0 j i ≡ F.ring.𝟘
      go f j i le h (no n) = f.height j i (omega arith)
      go f j i le h (yes n) = rw n (f.past i (past (dec_lt f.degree i)))
        where
          past : Dec (f.degree < i) → f.degree < i
          past (yes x) = x
          past (no x) = let e : u * j ≡ u * 0 = ap (λ k. u * k) n in let y = h (omega arith) in absurd (omega arith)

  fresh-good : Good F.ring u W l b 1 (cost b l) start
  fresh-good = good-begins Φ fresh-sound fresh-lead (omega arith) (λ i x k. fresh i k) (omega arith)

  -- a turn may enter on fresh rows
  pub fresh_enters : Sound F.ring u W l 1 start
  fresh_enters = fresh-good.sound

  -- demand 3
  pub run-promised : {list : List ℕ} {o : Outcome F} → Run F u l list start 1 o → Promised F u W l b start list o
  unfolding allowed
  run-promised none =
      record { number = refl; kept = run-keeps Φ (omega arith) fresh_enters none; count = omega arith; finished = λ h. absurd (omega arith) }
  run-promised (turn t more) =
      let x = run_serves Φ fresh-good t more in
      record {
        number = x.number;
        kept = run-keeps Φ (omega arith) fresh_enters (turn t more);
        count = omega arith;
        finished = λ h le. done x.spent x.count le;
      }
    where
      done : {row n a m : ℕ} → Spent l row n a m → n + m ≤ cost b l → cost b l ≤ a → row ≡ suc l
      done (inl e) c le = e
      done (inr (e, z)) c le = absurd (omega arith)

  -- and there is a run for every list of allowances
  pub run-begins : (list : List ℕ) → (o : Outcome F) × Run F u l list start 1 o
  run-begins list = run_exists Φ list 1 start (omega arith) fresh_enters

pub allowed-some : (list : List ℕ) → 0 < allowed list → 0 < length list
unfolding allowed
allowed-some [] h = absurd (omega arith)
allowed-some (a ∷ list) h = omega arith
