use Rattle.land_select.proofs.Listing.{parties_alone}
use Rattle.land_select.proofs.objects.PartyRecordListed.alone.Goals as goal

pub returns : goal.returns
returns c r first last is = rw c.empty.ensures (parties_alone c.args.found r first last is)
