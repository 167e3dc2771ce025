use Rattle.land_wire.proofs.ItemLemmas.{items_unique}
use Rattle.land_wire.proofs.framing.laws.item_lists_are_unique.Goals as goal

pub returns : goal.returns
returns c = items_unique
