use Rattle.std.proofs.Common.{rules, ◌≡◌, ap, to_z, of_z, w64, ◌∙◌}
use Rattle.land_rules.specs.Denials.Interests.{shows_entry}
use Rattle.land_tables_schema.proofs.Looking.{look_told}
use Rattle.sqlite.specs.Held.{state}
use Rattle.land_select.proofs.verdict.interest.is_entry_shown.Goals as goal

pub returns-clause-reads_only : goal.returns-clause-reads_only
returns-clause-reads_only g c =
    let when : to_z w64 (of_z w64 c.args.at) ≡ c.args.at = search rules in
    let reads_only = rw when at c.in_ok-interest.ensures.reads_only in
    look_told (state g.S.Store c.args.conn.now) (state g.S.Store c.read_interest.new.conn) _ reads_only
    (λ clean is moments h held r have stands. c.shows_entry.ensures ∙ ap (λ interest. shows_entry interest c.args.caller.party c.args.entry.now) (is moments h held r have stands))
