use Rattle.std.proofs.Common.{rules, ◌≡◌, ap, nat_eq, to_z, of_z, w64, ◌∙◌}
use Rattle.std.proofs.lemmas.Bool.{and_parts}
use Rattle.land_acts.specs.Slices.{is_same_mandate}
use Rattle.land_core.proofs.FiniteSets.{exact_mandates, mandates_total}
use Rattle.land_core.specs.Entries.{entries_where}
use Rattle.land_select.proofs.Keeping.{kept_within}
use Rattle.land_tables_schema.proofs.Looking.{look_told}
use Rattle.sqlite.specs.Held.{state}
use Rattle.land_select.proofs.slices.pairs.read_mandate.Goals as goal

pub returns-clause-reads_only : goal.returns-clause-reads_only
returns-clause-reads_only g c =
    let it = c.args.it in
    let when : to_z w64 (of_z w64 c.args.at) ≡ c.args.at = search rules in
    let reads_only = rw when at c.in_ok-held.ensures.reads_only in
    look_told (state g.S.Store c.args.conn.now) (state g.S.Store c.mandates.new.conn) _ reads_only
    (λ clean is moments h held r have stands.
    c.in_ok-only_mandate.ensures
    ∙ ap (entries_where (λ mandate u. is_same_mandate it mandate)) (is moments h held r have stands)
    ∙ kept_within mandates_total exact_mandates (λ mandate u. is_same_mandate it mandate) (λ mandate u. nat_eq mandate.agent it.agent) r.mandates (λ mandate u same. (and_parts _ _ same).1))
