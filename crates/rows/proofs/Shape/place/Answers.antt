-- `Shape::place` meets its contract.
use mathlib.Core.Path.{◌≡◌, ap₂}
use Prim.Native.Nat.{ℕ, ◌+◌, ◌*◌, ◌<◌}
use native.Mathlib.Omega.{arith}
use Rattle.poly.specs.Limits.{rows_most}
use Rattle.rows.specs.Bytes.{place as place_of}
use Rattle.rows.proofs.Placing.{row-end, place-inside, rows-small}
use Rattle.rows.proofs.Shape.place.Goals as goal

pub curve_bytes-requires : goal.curve_bytes-requires
curve_bytes-requires c = c.requires.fine

pub overflow_mul-result : goal.overflow_mul-result
overflow_mul-result c = let p = c.requires in rw c.curve_bytes.ensures (omega (arith, row-end c.args.self p.row, rows-small p.fine))

pub slot-requires : goal.slot-requires
slot-requires c = c.requires.fine

pub overflow_mul-result-2 : goal.overflow_mul-result-2
overflow_mul-result-2 c =
    let at : c.args.i * c.curve_bytes.result + c.args.j * c.slot.result + c.args.e ≡ place_of c.args.self c.args.i c.args.j c.args.e =
    ap₂ (λ (x y : ℕ). c.args.i * x + c.args.j * y + c.args.e) c.curve_bytes.ensures c.slot.ensures in
    let small : c.args.i * c.curve_bytes.result + c.args.j * c.slot.result + c.args.e < rows_most =
    let p = c.requires in rw at (omega (arith, place-inside c.args.self p.row p.power p.degree, rows-small p.fine)) in
    omega (arith, small)

pub overflow_add-result : goal.overflow_add-result
overflow_add-result c =
    let at : c.args.i * c.curve_bytes.result + c.args.j * c.slot.result + c.args.e ≡ place_of c.args.self c.args.i c.args.j c.args.e =
    ap₂ (λ (x y : ℕ). c.args.i * x + c.args.j * y + c.args.e) c.curve_bytes.ensures c.slot.ensures in
    let small : c.args.i * c.curve_bytes.result + c.args.j * c.slot.result + c.args.e < rows_most =
    let p = c.requires in rw at (omega (arith, place-inside c.args.self p.row p.power p.degree, rows-small p.fine)) in
    omega (arith, small)

pub overflow_add-result-2 : goal.overflow_add-result-2
overflow_add-result-2 c =
    let at : c.args.i * c.curve_bytes.result + c.args.j * c.slot.result + c.args.e ≡ place_of c.args.self c.args.i c.args.j c.args.e =
    ap₂ (λ (x y : ℕ). c.args.i * x + c.args.j * y + c.args.e) c.curve_bytes.ensures c.slot.ensures in
    let small : c.args.i * c.curve_bytes.result + c.args.j * c.slot.result + c.args.e < rows_most =
    let p = c.requires in rw at (omega (arith, place-inside c.args.self p.row p.power p.degree, rows-small p.fine)) in
    omega (arith, small)

pub returns : goal.returns
returns c =
    let at : c.args.i * c.curve_bytes.result + c.args.j * c.slot.result + c.args.e ≡ place_of c.args.self c.args.i c.args.j c.args.e =
    ap₂ (λ (x y : ℕ). c.args.i * x + c.args.j * y + c.args.e) c.curve_bytes.ensures c.slot.ensures in
    at
