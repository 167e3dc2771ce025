use Rattle.land_sheet.proofs.OneDate.{one_sheet}
use Rattle.land_sheet.proofs.laws.sheets_are_unique.Goals as goal

pub returns : goal.returns
returns c = one_sheet
