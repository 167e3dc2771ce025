use Rattle.land_digest.proofs.RowOrder.{text_ignores_row_order}
use Rattle.land_digest.proofs.laws.text_ignores_row_order.Goals as goal

pub returns : goal.returns
returns c = text_ignores_row_order
