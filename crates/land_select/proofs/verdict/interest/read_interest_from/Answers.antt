use Rattle.std.proofs.Common.{rules, ◌≡◌, sym, to_z, of_z, w64, ◌∙◌}
use Rattle.land_select.proofs.EarlyInterest.{own_decides}
use Rattle.land_select.proofs.Judged.{looked_at_nothing}
use Rattle.land_tables_schema.proofs.Looking.{look_told}
use Rattle.sqlite.specs.Held.{state}
use Rattle.land_select.proofs.verdict.interest.read_interest_from.Goals as goal

pub returns-in-Owner-clause-reads_only : goal.returns-in-Owner-clause-reads_only
returns-in-Owner-clause-reads_only g c =
    looked_at_nothing _ _ (state g.S.Store c.args.conn.now) c.requires.open
    (λ clean moments h held r have stands. c.in-Owner.is ∙ sym (own_decides r c.args.caller c.args.entries.now (sym c.interest_of-own.ensures ∙ c.in-Owner.is)))

pub returns-clause-reads_only : goal.returns-clause-reads_only
returns-clause-reads_only g c =
    let when : to_z w64 (of_z w64 c.args.at) ≡ c.args.at = search rules in
    let reads_only = rw when at c.in_ok-names.ensures.reads_only in
    let told = rw c.as_slice.ensures at c.interest_of.ensures in
    look_told (state g.S.Store c.args.conn.now) (state g.S.Store c.read_names.new.conn) _ reads_only
    (λ clean are moments h held r have stands. told ∙ c.names_decide_interests.ensures r c.args.caller c.in_ok-names.names (are moments h held r stands) c.args.entries.now)
