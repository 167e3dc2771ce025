use Rattle.std.proofs.Common.{rules, ◌≡◌, ap, subst, to_z, of_z, w64, ◌∙◌}
use Rattle.land_rules.specs.Circles.{circle_of, is_name_of}
use Rattle.land_rules.specs.Denials.Interests.{interest_of}
use Rattle.land_select_queries.proofs.Chains.{look_after}
use Rattle.land_select_queries.specs.Lookups.Parts.{ReadsPart}
use Rattle.sqlite.specs.Effect.{Database}
use Rattle.sqlite.specs.Held.{state}
use Rattle.land_select.proofs.verdict.interest.read_interest.Goals as goal

pub returns-clause-reads_only : goal.returns-clause-reads_only
returns-clause-reads_only g c =
    let caller = c.args.caller in
    let t = c.args.at in
    let when : to_z w64 (of_z w64 t) ≡ t = search rules in
    let entries = c.in_ok-entries.entries in
    look_after (state g.S.Store c.args.conn.now) (state g.S.Store c.entries.new.conn) (state g.S.Store c.read_interest_from.new.conn) c.read_interest_from.result (rw when at c.in_ok-entries.ensures.reads_only) (rw when at c.read_interest_from.ensures.reads_only)
    (λ it clean same is told moments h held r have stands.
    subst (λ (now : Database). ReadsPart (λ r. interest_of (is_name_of r (circle_of r caller.party)) caller entries) t now.trees it) same told moments h held r have stands
    ∙ ap (λ m. interest_of (is_name_of r (circle_of r caller.party)) caller m) (is moments h held r have stands))
