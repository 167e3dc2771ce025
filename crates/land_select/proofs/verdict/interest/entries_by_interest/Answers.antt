use Rattle.std.proofs.Common.{rules, ◌≡◌, ap, to_z, of_z, w64, ◌∙◌}
use Rattle.land_core.specs.Entries.{entries_where}
use Rattle.land_rules.specs.Denials.Interests.{shows_entry}
use Rattle.land_tables_schema.proofs.Looking.{look_lost, look_told}
use Rattle.sqlite.specs.Held.{state}
use Rattle.land_select.proofs.verdict.interest.entries_by_interest.Goals as goal

pub returns-in_err-filter_by_interest-clause-reads_only : goal.returns-in_err-filter_by_interest-clause-reads_only
returns-in_err-filter_by_interest-clause-reads_only g c =
    look_lost (state g.S.Store c.args.conn.now) (state g.S.Store c.read_interest_from.new.conn) c.from_residual-in_err-filter_by_interest.result c.from_residual-in_err-filter_by_interest.ensures.0 c.in_ok-interest.ensures.reads_only

pub returns-clause-reads_only : goal.returns-clause-reads_only
returns-clause-reads_only g c =
    let when : to_z w64 (of_z w64 c.args.at) ≡ c.args.at = search rules in
    let reads_only = rw when at c.in_ok-interest.ensures.reads_only in
    let entries = c.args.entries.now in
    look_told (state g.S.Store c.args.conn.now) (state g.S.Store c.read_interest_from.new.conn) _ reads_only
    (λ clean is moments h held r have stands. c.in_ok-filter_by_interest.ensures ∙ ap (λ interest. entries_where (λ n e. shows_entry interest c.args.caller.party e) entries) (is moments h held r have stands))
