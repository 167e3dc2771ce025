use Rattle.land_select.proofs.Listing.{sources_alone}
use Rattle.land_select.proofs.objects.SourceRecordListed.alone.Goals as goal

pub returns : goal.returns
returns c r first last is = rw c.empty.ensures (sources_alone c.args.found r first last is)
