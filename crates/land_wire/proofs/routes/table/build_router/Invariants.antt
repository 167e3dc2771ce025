-- The router contains the entries that were added, and each of the others has no conflict with it.
use Rattle.std.proofs.Common.{◌≡◌, [], take, drop, true}
use Rattle.std.specs.List.{fold}
use Rattle.land_wire.specs.Routes.Table.{have_no_conflicts, with_entry}
use Rattle.land_wire.proofs.routes.table.build_router.Given as goal

abbrev pub invariant-loop-entry : goal.invariant-loop-entry
invariant-loop-entry l =
    (l.router ≡ fold with_entry [] (take l.entry-index l.entries)) × (have_no_conflicts l.router (drop l.entry-index l.entries) ≡ true)
