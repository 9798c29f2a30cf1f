-- The curve's bytes while y becomes y + c x^i: one slot, a run of slots, all of them; and back, which restores every byte.
use mathlib.Core.Path.{◌≡◌, refl, sym, ap, ◌∙◌, fun_ext}
use mathlib.Core.Logic.{◌⊎◌, inl, inr}
use mathlib.Core.List.{List}
use Prim.Native.Nat.{ℕ, suc, ◌+◌, ◌-◌, ◌*◌, ◌≤◌, ◌<◌, zero-le}
use native.Mathlib.Nat.{mul-le-mul_left, suc-mul}
use native.Mathlib.Decide.{dec_le, dec_lt, ℕ_discrete}
use native.Mathlib.Omega.{arith}
use lib.ListN.{get_or}
use Rattle.field.specs.Field.{Ring, RingLaws}
use Rattle.field.specs.Symbols.{Element, symbol, symbols, sum_of, product_of}
use Rattle.field.specs.Operations.{neg_byte}
use Rattle.field.specs.Kernels.{Subtracts, subtracted}
use Rattle.field.proofs.RingLaws.{add-zero, mul-zero, neg-mul, neg-neg}
use Rattle.field.proofs.OperationLaws.{symbol-neg_byte, neg_byte-below}
use Rattle.field.proofs.KernelLaws.{length-subtracted, subtracted-outside, subtracted-below, subtracted-symbol}
use Rattle.poly.specs.Polynomials.{Seq, Series, mono}
use Rattle.poly.specs.Lent.{Untouched}
use Rattle.poly.proofs.Series.{series}
use Rattle.poly.proofs.BufferLaws.{untouched-none, untouched-then, untouched_unique}
use Rattle.curves.specs.Curves.{Curve, Height, Under}
use Rattle.curves.proofs.Heights.{height-below}
use Rattle.rows.specs.Bytes.{slot, curve_bytes}
use Rattle.rows.specs.declared.Shape.{Shape}
use Rattle.rows.proofs.Placing.{block-end, slot-end, in-curve}
use Rattle.near.specs.Work.{curve_of, Laid, Tries, Lifted, Shifted}
use Rattle.near.proofs.search.Passes.{pass, passes, pass-before, pass-top, pass-symbol, pass-symbol-low, chosen-passes, chosen-back}
use Rattle.near.proofs.search.Laying.{curve-at, curve-high, curve-wide, curve-byte, laws}

-- one slot, at the kernel's call
module _ {S : Shape} {i c : ℕ} {xs : List ℕ} (tries : Tries S i c xs) {q : ℕ} (inside : q < S.l) where
  abbrev laid : Laid S xs
  laid = tries.laid

  abbrev s : ℕ
  s = slot S

  abbrev p : ℕ
  p = S.p

  abbrev R : Ring
  R = (symbols p).ring

  L : RingLaws R
  L = laws laid

  -- x^i fits in a slot
  pub level-inside : i < s
  level-inside =
      let n = tries.next in
      let a = laid.fine.whole in
      let b : S.u * 1 ≤ S.u * S.l = mul-le-mul_left S.u (omega arith) in
      omega arith

  above : suc q * s ≡ q * s + s
  above = suc-mul q s

  top : suc q * s + s ≤ curve_bytes S
  top = slot-end S (omega arith)

  pub subtracts : Subtracts p (neg_byte p c) (q * s + i) (suc q * s) (s - i) xs
  subtracts =
      let a = above in
      let b = level-inside in
      let t = top in
      let r = laid.room in
      record {
        size = laid.fine.size;
        factor = neg_byte-below laid.fine.size c;
        target = record { within = omega arith; below = λ d h. laid.below (q * s + i + d) (omega arith) };
        source = record { within = omega arith; below = λ d h. laid.below (suc q * s + d) (omega arith) };
        apart = inl (omega arith);
      }

  abbrev ys : List ℕ
  ys = subtracted p (neg_byte p c) (q * s + i) (suc q * s) (s - i) xs

  -- bytes outside the slot, and those below x^i in it, stay
  byte-other : {a e : ℕ} → e ≤ S.width → (a < q) ⊎ ((suc q ≤ a) ⊎ (e < i)) → get_or ys (a * s + e) 0 ≡ get_or xs (a * s + e) 0
  byte-other {a} {e} k o = subtracted-outside p (neg_byte p c) (q * s + i) (suc q * s) xs (s - i) (a * s + e) (go (dec_lt a q)
      (dec_lt q a) o)
    where
      go : Dec (a < q) → Dec (q < a) → (a < q) ⊎ ((suc q ≤ a) ⊎ (e < i)) → (a * s + e < q * s + i) ⊎ (q * s + i + (s - i) ≤ a * s + e)
      go (yes l) d o = let b = block-end s l in inl (omega arith)
      go (no l) (yes g) o = let b = block-end s g in let h = level-inside in inr (omega arith)
      go (no l) (no g) (inl o) = absurd (omega arith)
      go (no l) (no g) (inr (inl o)) = absurd (omega arith)
      go (no l) (no g) (inr (inr o)) = let z : a ≡ q = omega arith in let b = ap (λ (n : ℕ). n * s) z in inl (omega arith)

  byte-taken : {e : ℕ} → i ≤ e → e ≤ S.width → symbol p (get_or ys (q * s + e) 0)
      ≡ sum_of p (symbol p (get_or xs (q * s + e) 0)) (product_of p (symbol p c) (symbol p (get_or xs (suc q * s + (e - i)) 0)))
  byte-taken {e} h k =
      let x : q * s + e ≡ q * s + i + (e - i) = omega arith in
      let w = subtracts.target.within in
      let l = level-inside in
      rw x (subtracted-symbol p (neg_byte p c) (q * s + i) (suc q * s) xs (s - i) (e - i) w (omega arith)
      ∙ rw (
        symbol-neg_byte p c,
        neg-mul L (symbol p c) (symbol p (get_or xs (suc q * s + (e - i)) 0)),
        neg-neg L (product_of p (symbol p c) (symbol p (get_or xs (suc q * s + (e - i)) 0))),
      ))

  -- in terms of the curve
  nothing : {x y : Element p} → x ≡ symbol p 0 → y ≡ symbol p 0 → sum_of p x (product_of p (symbol p c) y) ≡ symbol p 0
  nothing y z = rw (y, z, mul-zero L (symbol p c)) (add-zero L (symbol p 0))

  -- what is above weighs as much
  heavy : (a e : ℕ) → i ≤ e → S.width < e + S.u * a → curve_of S xs (suc a) (e - i) ≡ symbol p 0
  heavy a e h k = let n = tries.next in laid.light (suc a) (e - i) (omega arith) (λ _. zero-le)

  slot-taken : (e : ℕ) → i ≤ e → curve_of S ys q e ≡ sum_of p (curve_of S xs q e) (product_of p (symbol p c) (curve_of S xs (suc q)
      (e - i)))
  slot-taken e h = go (dec_le e S.width)
    where
      go : Dec (e ≤ S.width) → curve_of S ys q e ≡ sum_of p (curve_of S xs q e) (product_of p (symbol p c) (curve_of S xs (suc q) (e - i)))
      go (yes k) =
          curve-at S ys (omega arith) k
          ∙ rw (curve-at S xs {j = q} {e = e} (omega arith) k, curve-at S xs {j = suc q} {e = e - i} (omega arith) (omega arith))
          (byte-taken h k)
      go (no k) = curve-wide S ys q (omega arith) ∙ sym (nothing (curve-wide S xs q (omega arith)) (heavy q e h (omega arith)))

  slot-other : (a e : ℕ) → (a < q) ⊎ ((suc q ≤ a) ⊎ (e < i)) → curve_of S ys a e ≡ curve_of S xs a e
  slot-other a e o = go (dec_le a S.l) (dec_le e S.width)
    where
      go : Dec (a ≤ S.l) → Dec (e ≤ S.width) → curve_of S ys a e ≡ curve_of S xs a e
      go (yes g) (yes k) = rw (curve-at S ys g k, curve-at S xs g k, byte-other k o)
      go (yes g) (no k) = curve-wide S ys a (omega arith) ∙ sym (curve-wide S xs a (omega arith))
      go (no g) d = curve-high S ys e (omega arith) ∙ sym (curve-high S xs e (omega arith))

  byte-small : (r : ℕ) → r < curve_bytes S → get_or ys r 0 < p
  byte-small r h = go (dec_le (q * s + i) r) (dec_lt r (q * s + i + (s - i)))
    where
      go : Dec (q * s + i ≤ r) → Dec (r < q * s + i + (s - i)) → get_or ys r 0 < p
      go (yes a) (yes b) =
          let x : r ≡ q * s + i + (r - (q * s + i)) = omega arith in
          rw x (subtracted-below p (neg_byte p c) (q * s + i) (suc q * s) xs (s - i) (r - (q * s + i)) subtracts.target.within
          (omega arith)
          laid.fine.size)
      go (yes a) (no b) = rw (subtracted-outside p (neg_byte p c) (q * s + i) (suc q * s) xs (s - i) r (inr (omega arith)))
          (laid.below r h)
      go (no a) b = rw (subtracted-outside p (neg_byte p c) (q * s + i) (suc q * s) xs (s - i) r (inl (omega arith))) (laid.below r h)

  light-taken : Under R S.u (suc S.width) 0 (curve_of S ys)
  light-taken a e w z = go (ℕ_discrete a q) (dec_le i e)
    where
      go : Dec (a ≡ q) → Dec (i ≤ e) → curve_of S ys a e ≡ symbol p 0
      go (yes d) (yes h) = rw d (slot-taken e h ∙ nothing (laid.light q e (rw d at w) (λ _. zero-le)) (heavy q e h (rw d at w)))
      go (yes d) (no h) = slot-other a e (inr (inr (omega arith))) ∙ laid.light a e w z
      go (no d) h = slot-other a e (apart (dec_lt a q)) ∙ laid.light a e w z
        where
          apart : Dec (a < q) → (a < q) ⊎ ((suc q ≤ a) ⊎ (e < i))
          apart (yes l) = inl l
          apart (no l) = inr (inl (omega arith))

  pub taken : Lifted S i c q (suc q) xs ys
  taken =
      let long = length-subtracted p (neg_byte p c) (q * s + i) (suc q * s) xs (s - i) in
      let a = above in
      let b = level-inside in
      let t = top in
      record {
        laid = record { fine = laid.fine; room = let r = laid.room in omega arith; below = byte-small; light = light-taken };
        slots = λ a e h k g. let z : a ≡ q = omega arith in rw z (slot-taken e g);
        others = slot-other;
        rest = record {
          long = long;
          same = λ r h. subtracted-outside p (neg_byte p c) (q * s + i) (suc q * s) xs (s - i) r (inr
              (omega arith));
        };
      }

-- which is one of Horner's passes
module _ {S : Shape} {xs : List ℕ} (laid : Laid S xs) (i c : ℕ) where
  abbrev F : Ring
  F = (symbols S.p).ring

  abbrev h : Seq F
  h = mono F (symbol S.p c) i

  abbrev T : Curve F
  T = curve_of S xs

  tall : Height F (suc S.l) T
  tall a e k = curve-high S xs e (omega arith)

  pub raised-pass : {j : ℕ} {ys : List ℕ} → Lifted S i c j S.l xs ys → curve_of S ys ≡ pass (Series F) h j T
  raised-pass {j} {ys} r = fun_ext (λ a. fun_ext (λ e. go a e (dec_lt a j) (dec_lt e i) (dec_lt a S.l)))
    where
      go : (a e : ℕ) → Dec (a < j) → Dec (e < i) → Dec (a < S.l) → curve_of S ys a e ≡ pass (Series F) h j T a e
      go a e (yes l) m n = r.others a e (inl l) ∙ sym (ap (λ (f : Seq F). f e) (pass-before (series (laws laid)) h j T a l))
      go a e (no l) (yes m) n =
          r.others a e (inr (inr m)) ∙ sym (pass-symbol-low (laws laid) (suc S.l) i (symbol S.p c) T j a (omega arith) e m)
      go a e (no l) (no m) (yes n) =
          r.slots a e (omega arith) n (omega arith)
          ∙ sym (pass-symbol (laws laid) (suc S.l) i (symbol S.p c) T j a (omega arith) e (omega arith))
      go a e (no l) (no m) (no n) =
          r.others a e (inr (inl (omega arith)))
          ∙ sym (pass-symbol (laws laid) (suc S.l) i (symbol S.p c) T j a (omega arith) e (omega arith)
          ∙ rw (tall (suc a) (e - i) (omega arith), mul-zero (laws laid) (symbol S.p c)) (add-zero (laws laid) (T a e)))

-- the passes, from the highest power of y down: those still to be made at ys make of it what all make of xs
pub record Shifting (S : Shape) (i c j : ℕ) (xs ys : List ℕ) : Type 0 where
  pub inside : j ≤ S.l
  pub laid : Laid S ys
  pub left : passes (Series (symbols S.p).ring) (mono (symbols S.p).ring (symbol S.p c) i) j (curve_of S ys)
      ≡ passes (Series (symbols S.p).ring) (mono (symbols S.p).ring (symbol S.p c) i) S.l (curve_of S xs)
  pub rest : Untouched (curve_bytes S) xs ys

passes-suc : (R : Ring) (h : R.Car) (a : ℕ) (f : Seq R) → passes R h (suc a) f ≡ passes R h a (pass R h a f)
unfolding passes
passes-suc R h a f = refl

pub shifting-more : {S : Shape} {i c j : ℕ} {xs ys zs : List ℕ} → Shifting S i c j xs ys → 0 < j → Lifted S i c (j - 1) S.l ys zs
    → Shifting S i c (j - 1) xs zs
shifting-more {S} {i} {c} {j} {xs} {ys} {zs} s some r =
    let R : Ring = (symbols S.p).ring in
    let e : j ≡ suc (j - 1) = omega arith in
    let k = s.inside in
    record {
      inside = omega arith;
      laid = r.laid;
      left =
          ap (passes (Series R) (mono R (symbol S.p c) i) (j - 1)) (raised-pass s.laid i c r)
          ∙ sym (passes-suc (Series R) (mono R (symbol S.p c) i) (j - 1) (curve_of S ys))
          ∙ ap (λ (n : ℕ). passes (Series R) (mono R (symbol S.p c) i) n (curve_of S ys)) (sym e)
          ∙ s.left;
      rest = untouched-then s.rest r.rest;
    }

pub shifted : {S : Shape} {i c : ℕ} {xs ys : List ℕ} → Laid S xs → Shifting S i c 0 xs ys → Shifted S i c xs ys
unfolding passes
shifted {S} {i} {c} {xs} laid s =
    let R : Ring = (symbols S.p).ring in
    record {
      laid = s.laid;
      curve =
          s.left
          ∙ ap (passes (Series R) (mono R (symbol S.p c) i) S.l)
          (sym (pass-top (series (laws laid)) (mono R (symbol S.p c) i) S.l (curve_of S xs) (height-below R (tall laid i c))))
          ∙ sym (chosen-passes (laws laid) (suc S.l) i (symbol S.p c) (curve_of S xs) (tall laid i c));
      rest = s.rest;
    }

-- two curves that are the same lie in the same bytes
pub laid-same : {S : Shape} {xs ys : List ℕ} → Laid S xs → Laid S ys → curve_of S ys ≡ curve_of S xs
    → Untouched (curve_bytes S) xs ys → ys ≡ xs
laid-same {S} {xs} {ys} a b e u =
    untouched_unique (curve_bytes S) u (untouched-none (curve_bytes S) xs)
    (λ q l.
    let r = in-curve S l in
    rw r.is (sym (curve-byte b r.low r.short) ∙ ap (λ (T : Curve (symbols S.p).ring). (T r.power r.degree).byte) e
    ∙ curve-byte a r.low r.short))

pub shifted-back : {S : Shape} {i c : ℕ} {xs ys zs : List ℕ} → Laid S xs → Shifted S i c xs ys → Shifted S i (neg_byte S.p c) ys zs
    → zs ≡ xs
shifted-back {S} {i} {c} {xs} {ys} {zs} laid there back =
    laid-same laid back.laid
    (back.curve
    ∙ rw (there.curve, symbol-neg_byte S.p c)
    (chosen-back (laws laid) (suc S.l) i (symbol S.p c) (curve_of S xs) (tall laid i c)))
    (untouched-then there.rest back.rest)
