use Rattle.land_select.proofs.Listing.{mutations_alone}
use Rattle.land_select.proofs.objects.MutationRecordListed.alone.Goals as goal

pub returns : goal.returns
returns c r first last is = rw c.empty.ensures (mutations_alone c.args.found r first last is)
