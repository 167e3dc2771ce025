use Rattle.std.proofs.Common.{rules, ◌≡◌, to_z, of_z, w64, sym, ◌∙◌}
use Rattle.land_select.proofs.Judged.{looked_at_nothing}
use Rattle.land_select.proofs.PartySight.{unseen}
use Rattle.sqlite.specs.Held.{state}
use Rattle.land_select.proofs.verdict.party.is_other_party_visible.Goals as goal

pub returns-in-Some-clause-reads_only : goal.returns-in-Some-clause-reads_only
returns-in-Some-clause-reads_only g c =
    let when : to_z w64 (of_z w64 c.args.at) ≡ c.args.at = search rules in
    rw when at c.is_visible_by_relation.ensures.reads_only

pub returns-in-None-clause-reads_only : goal.returns-in-None-clause-reads_only
returns-in-None-clause-reads_only g c =
    looked_at_nothing _ _ (state g.S.Store c.args.conn.now) c.requires.open
    (λ clean moments h held r premise stands others.
    unseen c.selections_are_the_rules.ensures c.seen_lists_are_exact.ensures c.circles_see_together.ensures r c.args.at h premise stands c.args.number c.args.caller c.requires.role c.args.names.now others (sym c.relation_of.ensures ∙ c.in-None.is))
