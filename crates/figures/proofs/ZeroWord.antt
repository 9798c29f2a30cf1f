-- The word of zeros, whatever the request: the curve is y^m, of weight m (k - 1).
use mathlib.Core.Path.{◌≡◌, ap, ◌∙◌, fun_ext}
use Prim.Native.Nat.{ℕ, ◌-◌, ◌*◌}
use native.Mathlib.Nat.{mul_comm}
use native.Mathlib.Omega.{arith}
use lib.ListN.{get_or}
use Rattle.field.specs.Field.{pow}
use Rattle.field.specs.Symbols.{symbol, symbols_of}
use Rattle.field.proofs.SymbolLaws.{symbols-field}
use Rattle.poly.specs.Polynomials.{Seq, Series, x_s}
use Rattle.poly.proofs.Interpolating.{places-distinct}
use Rattle.curves.specs.Curves.{Curve, Smallest}
use Rattle.curves.proofs.Least.{weight_unique}
use Rattle.curves.proofs.ZeroWord.{smallest-zero-word, zero-word-weight}
use Rattle.rows.specs.Bytes.{HoldsCurve}
use Rattle.rows.specs.Demands.{Request, ring_for, shape_for, Member}
use Rattle.rows.proofs.Accepted.{Accepted}
use Rattle.figures.specs.Figures.{Calls}
use Rattle.figures.proofs.Calls.{calls-accepted, calls_hand}

abbrev y^m : (q : Request) → Curve (ring_for q)
y^m q = pow (Series (Series (ring_for q))) (x_s (Series (ring_for q))) q.m

pub zero_word : (q : Request) (c : Calls q) → ((s : ℕ) → get_or q.word s 0 ≡ 0) → c.start.number ≡ 0
    → HoldsCurve (shape_for q) c.curve (y^m q) × (c.finish.weight ≡ q.m * (q.k - 1))
zero_word q c zeros ok =
    let hand = calls_hand c ok in (
      rw (← hand.only (y^m q) smallest.0) at hand.bytes,
      hand.weight ∙ weight_unique hand.smallest smallest.0 ∙ smallest.1 ∙ mul_comm (q.k - 1) q.m,
    )
  where
    known : Accepted q.p q.points q.word q.k q.m q.l c.lent
    known = calls-accepted c ok

    word : ◌≡◌ {A = Seq (ring_for q)} (symbols_of q.p q.word) (λ s. symbol q.p 0)
    word = fun_ext (λ s. ap (symbol q.p) (zeros s))

    smallest : (s : Smallest (ring_for q) (q.k - 1) (Member q) (y^m q)) × (s.weight ≡ (q.k - 1) * q.m)
    smallest =
        let Φ = symbols-field q.p known.places.size in
        let points = places-distinct known.places in
        let degree = known.degree in
        rw word (
          smallest-zero-word Φ points (q.k - 1) q.m q.l (omega arith) known.heights.order,
          zero-word-weight Φ points (q.k - 1) q.m q.l (omega arith) known.heights.order,
        )
