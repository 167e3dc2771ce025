use Rattle.std.proofs.Common.{◌≡◌}
use Rattle.std.specs.Prelude.{◌&&◌, filter}
use Rattle.land_acts.specs.Slices.{includes_party}
use Rattle.land_core.specs.Entries.{with_entries, entries_where}
use Rattle.land_core.specs.Grants.{set_entries}
use Rattle.land_acts.proofs.slice.roles_in_slice.Given as goal

abbrev pub invariant-loop-grant : goal.invariant-loop-grant
invariant-loop-grant l = with_entries l.kept (filter (λ e. l.parts.roles && includes_party l.parts l.register l.act e.0.party) (set_entries l.grant-iterator)) ≡ entries_where (λ g u. l.parts.roles && includes_party l.parts l.register l.act g.party) l.register.roles
