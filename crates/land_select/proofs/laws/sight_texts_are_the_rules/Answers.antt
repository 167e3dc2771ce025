use Rattle.land_select.proofs.Together.{texts_are_rules}
use Rattle.land_select.proofs.laws.sight_texts_are_the_rules.Goals as goal

pub returns : goal.returns
returns c = texts_are_rules c.texts_select.ensures c.selections_are_the_rules.ensures
