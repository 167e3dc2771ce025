use Rattle.std.proofs.Common.{sym, ◌∙◌}
use Rattle.land_select.proofs.KnownRoles.{known_after, none_in}
use Rattle.land_select.proofs.known_roles.forget_outdated.Goals as goal

pub returns-else-not-is_empty-2 : goal.returns-else-not-is_empty-2
returns-else-not-is_empty-2 c =
    let ended = none_in c.args.change.now.ended.roles (rw c.as_slice.ensures at (sym c.is_empty.ensures ∙ c.if-not-is_empty.false)) in
    let put = none_in c.args.change.now.put.mandates (rw c.as_slice-2.ensures at (sym c.is_empty-2.ensures ∙ c.if-not-is_empty-2.false)) in
    λ r known. (known, known_after r c.args.change.now _ ended put known)
