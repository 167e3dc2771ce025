use Rattle.std.proofs.Common.{◌<◌, length, refl, rules}
use Rattle.std.specs.Int.{w64}
use Rattle.std.specs.Prelude.{FitsSigned}
use Rattle.std.proofs.lemmas.Int.{to_z-of_z}
use Rattle.land_keep.specs.Timeline.{register_at}
use Rattle.land_sheet.proofs.ExtractRows.{result_given}
use Rattle.land_sheet.proofs.extracts.seen.Seen.next.Goals as goal

-- the row is that of the first remaining number
pub returns-clause-gives : goal.returns-clause-gives
returns-clause-gives g c honest stand =
    let it = c.args.self.now in
    let r = register_at (g.K.Keeper.timeline it.keeper.now) it.at in
    let fit : FitsSigned w64 it.at = search rules in
    let inside : it.given < length it.numbers.now = search rules in
    result_given r it.kind it.numbers.now it.given _ c.read_row-made.result inside refl stand (simp to_z-of_z at (c.read_row-made.ensures.value honest))
