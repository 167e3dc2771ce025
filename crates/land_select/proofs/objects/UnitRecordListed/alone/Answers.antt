use Rattle.land_select.proofs.Listing.{units_alone}
use Rattle.land_select.proofs.objects.UnitRecordListed.alone.Goals as goal

pub returns : goal.returns
returns c r first last is = rw c.empty.ensures (units_alone c.args.found r first last is)
