-- `Shape::of` meets its contract: products of two bytes fit.
use Prim.Native.Nat.{ℕ, ◌-◌, ◌*◌, ◌≤◌}
use native.Mathlib.Nat.{mul-le-mul}
use native.Mathlib.Omega.{arith}
use Rattle.rows.proofs.Shape.of.Goals as goal

small : (a b : ℕ) → a ≤ 255 → b ≤ 255 → a * b ≤ 65025
small a b h k = mul-le-mul {n₁ = a} {m₁ = b} {n₂ = 255} {m₂ = 255} h k

pub overflow_mul-result : goal.overflow_mul-result
overflow_mul-result c =
    let m-n : c.args.m * c.args.n ≤ 65025 = small c.args.m c.args.n (omega arith) (omega arith) in
    rw (c.from-m.ensures, c.from.ensures) (omega (arith, m-n))

pub overflow_mul-result-2 : goal.overflow_mul-result-2
overflow_mul-result-2 c =
    let l_u : (c.args.l - c.args.m) * (c.args.k - 1) ≤ 65025 = small (c.args.l - c.args.m) (c.args.k - 1) (omega arith) (omega arith) in
    rw (c.from-l.ensures, c.from-m.ensures, c.from-u.ensures) (omega (arith, l_u))

pub overflow_add-result : goal.overflow_add-result
overflow_add-result c =
    let m-n : c.args.m * c.args.n ≤ 65025 = small c.args.m c.args.n (omega arith) (omega arith) in
    let l_u : (c.args.l - c.args.m) * (c.args.k - 1) ≤ 65025 = small (c.args.l - c.args.m) (c.args.k - 1) (omega arith) (omega arith) in
    rw (c.from-l.ensures, c.from-m.ensures, c.from-u.ensures, c.from.ensures) (omega (arith, m-n, l_u))
