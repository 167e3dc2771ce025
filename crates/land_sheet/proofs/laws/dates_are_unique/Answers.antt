use Rattle.land_sheet.proofs.OneDate.{one_date}
use Rattle.land_sheet.proofs.laws.dates_are_unique.Goals as goal

pub returns : goal.returns
returns c = one_date
