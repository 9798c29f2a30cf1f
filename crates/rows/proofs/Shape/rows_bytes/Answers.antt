-- `Shape::rows_bytes` meets its contract.
use native.Mathlib.Numerals.{add-one}
use native.Mathlib.Omega.{arith}
use Rattle.rows.proofs.Placing.{rows-small}
use Rattle.rows.proofs.Shape.rows_bytes.Goals as goal

pub overflow_mul-result : goal.overflow_mul-result
overflow_mul-result c = rw (add-one, c.curve_bytes.ensures) (omega (arith, rows-small c.requires))

pub returns : goal.returns
returns c = rw (add-one, c.curve_bytes.ensures)
