use Rattle.std.proofs.Common.{rules, ◌≡◌, false, ap, sym, to_z, of_z, w64, ◌∙◌}
use Rattle.land_core.specs.declared.kind.Kind.TheVariants as kind
use Rattle.land_rules.specs.Denials.Sight.{verdict_given_sight}
use Rattle.land_select.proofs.Judged.{sight_told}
use Rattle.land_tables_schema.proofs.Looking.{look_told}
use Rattle.sqlite.specs.Held.{state}
use Rattle.land_select.proofs.verdict.sheet.sheet_by_interest.Goals as goal

pub returns-clause-reads_only : goal.returns-clause-reads_only
returns-clause-reads_only g c =
    let caller = c.args.caller in
    let unit = c.args.unit in
    let when : to_z w64 (of_z w64 c.args.at) ≡ c.args.at = search rules in
    let reads_only = rw when at c.in_ok-told.ensures.reads_only in
    look_told (state g.S.Store c.args.conn.now) (state g.S.Store c.read_shown_unit.new.conn) _ reads_only
    (λ clean shown moments h held r premise stands.
    let it = shown moments h held r premise stands in
    let seen = it.0 ∙ sym (c.interests_decide_sight.ensures r premise caller kind.Unit unit c.requires.role) in
    (c.view_verdict-verdict.ensures ∙ ap (λ b. verdict_given_sight b false caller kind.Unit unit) seen ∙ sight_told c.sight_decides_verdicts.ensures r premise caller kind.Unit unit c.requires.other, it.1))
