use Rattle.std.proofs.Common.{refl}
use Rattle.std.specs.FinMap as map
use Rattle.land_core.proofs.FiniteSets.{set_entries-keys}
use Rattle.land_core.specs.Mandates.{mandates_in}
use Rattle.land_select.proofs.slices.pairs.only_mandate.Goals as goal

pub loop-mandate-init : goal.loop-mandate-init
unfolding mandates_in
loop-mandate-init c =
    rw (c.new-kept.ensures, c.into_iter-mandate-iterator.ensures.into_iter_gives, c.iter-mandate-items.ensures.rest, set_entries-keys (map.entries c.args.mandates.now)) refl
