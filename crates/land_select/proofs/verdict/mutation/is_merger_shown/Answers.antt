use Rattle.std.proofs.Common.{rules, ◌≡◌, ◌||◌, ap, subst, sym, to_z, of_z, w64, ◌∙◌}
use Rattle.std.specs.List.{list_any}
use Rattle.land_rules.specs.Denials.Interests.{interest_at, shows_unit}
use Rattle.land_select_queries.proofs.Chains.{look_after}
use Rattle.land_select_queries.specs.Lookups.Parts.{ReadsPart}
use Rattle.land_tables_schema.proofs.Looking.{look_told}
use Rattle.sqlite.specs.Effect.{Database}
use Rattle.sqlite.specs.Held.{state}
use Rattle.land_select.proofs.verdict.mutation.is_merger_shown.Goals as goal

pub returns-then-branch-clause-reads_only : goal.returns-then-branch-clause-reads_only
returns-then-branch-clause-reads_only g c =
    let caller = c.args.caller in
    let others = c.args.merger.now.others in
    let when : to_z w64 (of_z w64 c.args.at) ≡ c.args.at = search rules in
    let reads_only = rw when at c.in_ok-is_unit_shown.ensures.reads_only in
    look_told (state g.S.Store c.args.conn.now) (state g.S.Store c.is_unit_shown.new.conn) _ reads_only
    (λ clean is moments h held r have stands.
    ap (λ b. b || list_any (λ unit. shows_unit (interest_at r caller unit)) others) (sym c.if-branch.true ∙ is moments h held r have stands))

pub returns-clause-reads_only : goal.returns-clause-reads_only
returns-clause-reads_only g c =
    let caller = c.args.caller in
    let others = c.args.merger.now.others in
    let t = c.args.at in
    let when : to_z w64 (of_z w64 t) ≡ t = search rules in
    let of_others = rw c.as_slice.ensures at c.is_any_unit_shown.ensures.reads_only in
    look_after (state g.S.Store c.args.conn.now) (state g.S.Store c.is_unit_shown.new.conn) (state g.S.Store c.is_any_unit_shown.new.conn) c.is_any_unit_shown.result (rw when at c.in_ok-is_unit_shown.ensures.reads_only) (rw when at of_others)
    (λ it clean same is one moments h held r have stands.
    subst (λ (now : Database). ReadsPart (λ r. list_any (λ unit. shows_unit (interest_at r caller unit)) others) t now.trees it) same one moments h held r have stands
    ∙ ap (λ b. b || list_any (λ unit. shows_unit (interest_at r caller unit)) others) (sym c.if-branch.false ∙ is moments h held r have stands))
