use Rattle.land_select.proofs.Listing.{parcels_alone}
use Rattle.land_select.proofs.objects.ParcelRecordListed.alone.Goals as goal

pub returns : goal.returns
returns c r first last is = rw c.empty.ensures (parcels_alone c.args.found r first last is)
