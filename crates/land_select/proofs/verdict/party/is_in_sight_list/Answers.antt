use Rattle.std.proofs.Common.{rules, ◌≡◌, nat_eq, to_z, of_z, w64, ap, ◌∙◌}
use Rattle.std.specs.List.{list_any}
use Rattle.land_core.specs.declared.kind.Kind.TheVariants.{Party}
use Rattle.land_tables_schema.proofs.Looking.{look_told}
use Rattle.sqlite.specs.Held.{state}
use Rattle.land_select.proofs.verdict.party.is_in_sight_list.Goals as goal

pub returns-clause-reads_only : goal.returns-clause-reads_only
returns-clause-reads_only g c =
    let when : to_z w64 (of_z w64 c.args.at) ≡ c.args.at = search rules in
    let reads_only = rw when at c.in_ok-listed.ensures.reads_only in
    let told = rw c.as_slice.ensures at c.is_listed.ensures in
    look_told (state g.S.Store c.args.conn.now) (state g.S.Store c.sight.new.conn) _ reads_only
    (λ clean is moments h held r premise stands.
    told ∙ ap (list_any (nat_eq c.args.number)) (is moments h held r premise stands) ∙ (c.seen_lists_are_exact.ensures r c.args.caller Party).exact c.args.number)
