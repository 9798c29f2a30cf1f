-- `field::modulo::reduce` meets its contract: the shifted product is the quotient, and what it leaves is the remainder.
use native.Mathlib.Nat.{div-mul-le_self}
use native.Mathlib.Omega.{arith}
use Rattle.field.proofs.SymbolLaws.{remainder-byte}
use Rattle.field.proofs.ReciprocalLaws.{taken, remainder}
use Rattle.field.proofs.modulo.reduce.Goals as goal

pub overflow_sub-result : goal.overflow_sub-result
overflow_sub-result c =
    let e = taken c.requires c.from.ensures c.from-2.ensures c.from-3.ensures in
    omega (arith, e, div-mul-le_self c.args.z c.args.p)

pub overflow_cast-result : goal.overflow_cast-result
overflow_cast-result c =
    let e = taken c.requires c.from.ensures c.from-2.ensures c.from-3.ensures in
    rw (e, remainder c.args.z c.args.p) (record { fits = remainder-byte c.args.z c.requires.size })

pub returns : goal.returns
returns c = rw (taken c.requires c.from.ensures c.from-2.ensures c.from-3.ensures) (remainder c.args.z c.args.p)
