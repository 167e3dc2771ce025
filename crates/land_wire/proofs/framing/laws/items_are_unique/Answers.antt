use Rattle.land_wire.proofs.ItemLemmas.{item_unique}
use Rattle.land_wire.proofs.framing.laws.items_are_unique.Goals as goal

pub returns : goal.returns
returns c = item_unique
