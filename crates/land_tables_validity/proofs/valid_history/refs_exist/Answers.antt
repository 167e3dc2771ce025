use Rattle.std.proofs.Common.{◌≡◌, ◌↔◌, Bool, true, subst, sym}
use Rattle.land_tables_validity.proofs.LawfulHistories.{all_refer}
use Rattle.land_tables_validity.specs.Conditions.{RefsExist}
use Rattle.land_tables_validity.proofs.valid_history.refs_exist.Goals as goal

pub returns : goal.returns
returns c = subst (λ (b : Bool). (b ≡ true) ↔ RefsExist c.args.moments.now c.args.history.now) (sym c.are_all.ensures)
    (all_refer c.args.moments.now c.args.history.now c.in_ok-roles.roles c.in_ok-members.members c.in_ok-parcels.parcels c.in_ok-entries.entries c.in_ok-mutations.mutations
    c.in_ok-mandates.mandates
    c.in_ok-roles.ensures c.in_ok-members.ensures c.in_ok-parcels.ensures c.in_ok-entries.ensures c.in_ok-mutations.ensures c.in_ok-mandates.ensures)
