use Rattle.std.proofs.Common.{◌≡◌, ◌+◌, ◌++◌, ◌∷◌, ap, append_assoc, arith, drop, sym, ◌∙◌}
use Rattle.std.proofs.lemmas.Grind.{common_steps}
use Rattle.land_tables_history.specs.Changed.{listed_members}
use Rattle.land_tables_rows.specs.Recording.Whole.{memberships_of_group}
use Rattle.land_tables_rows.proofs.change_writing.lists.list_members.Goals as goal

pub loop-group-preserved : goal.loop-group-preserved
loop-group-preserved c =
    let group = c.loop-group-item.result in
    let later = drop (c.loop-group.group-index + 1) c.args.groups.now in
    let to_come : drop c.loop-group.group-index c.args.groups.now ≡ group ∷ later = grind (arith, common_steps) in
    ap (λ l. l ++ listed_members later) c.in_ok-add_members.ensures
    ∙ append_assoc c.loop-group.listed (memberships_of_group group.0 group.1) (listed_members later)
    ∙ ap (λ l. c.loop-group.listed ++ listed_members l) (sym to_come)
    ∙ c.loop-group.invariant
