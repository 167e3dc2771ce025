use Rattle.land_digest.proofs.Places.{events_have_distinct_places}
use Rattle.land_digest.proofs.laws.events_have_distinct_places.Goals as goal

pub returns : goal.returns
returns c = events_have_distinct_places
