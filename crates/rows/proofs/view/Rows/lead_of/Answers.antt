-- `rows::view::Rows::lead_of` meets its contract.
use Rattle.rows.proofs.leading.Finding.{found-some}
use Rattle.rows.proofs.view.Rows.lead_of.Goals as goal

pub unwrap-requires : goal.unwrap-requires
unwrap-requires c = found-some _ _ _ _ c.row_lead.ensures c.requires.nonzero
