use Rattle.std.proofs.Common.{refl}
use Rattle.std.specs.FinMap as map
use Rattle.land_core.proofs.FiniteSets.{set_entries-keys}
use Rattle.land_core.specs.Grants.{grants_in}
use Rattle.land_acts.proofs.slice.roles_in_slice.Goals as goal

pub loop-grant-init : goal.loop-grant-init
unfolding grants_in
loop-grant-init c =
    rw (c.new-kept.ensures, c.into_iter-grant-iterator.ensures.into_iter_gives, c.iter-grant-items.ensures.rest, set_entries-keys (map.entries c.args.register.now.roles)) refl
