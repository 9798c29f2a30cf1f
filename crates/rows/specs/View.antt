-- What is said of rows as the code holds them: their bytes beside the numbers by which these are read.
--   ring_of rows     their symbols
--   row_of rows i    row i
--   Light rows i     no term of row i weighs more than the width
use Rattle.std.specs.Prelude.{ℕ}
use Rattle.field.specs.Field.{Ring}
use Rattle.field.specs.Symbols.{symbols}
use Rattle.curves.specs.Curves.{Curve}
use Rattle.rows.specs.Bytes.{rows_of}
use Rattle.rows.specs.Work.{LightRow}
use Rattle.rows.specs.declared.view.Rows.{Rows}

module _ (rows : Rows) where
  abbrev pub ring_of : Ring
  ring_of = (symbols rows.shape.p).ring

  abbrev pub row_of : ℕ → Curve ring_of
  row_of = rows_of rows.shape rows.bytes.now

  abbrev pub Light : ℕ → Type 0
  Light = LightRow rows.shape rows.bytes.now
