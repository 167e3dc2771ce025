use Rattle.std.proofs.Common.{rules, ◌≡◌, Bool, true, subst, sym, to_z, of_z, w64, Ok, ◌∙◌}
use Rattle.land_core.specs.Register.{stands}
use Rattle.land_core.specs.declared.kind.Kind.TheVariants as kind
use Rattle.land_rules.specs.Relations.{has_pending_mutation_on}
use Rattle.land_select.proofs.Awaiting.{none_names, one_names}
use Rattle.land_select_queries.specs.Lookups.Parts.{ReadsPart}
use Rattle.land_tables_rows.specs.declared.listing.fault.ReadFault.{ReadFault}
use Rattle.land_tables_schema.proofs.Looking.{look_then, look_told}
use Rattle.land_tables_schema.specs.Rows.ReadQueries.{IsStoreRead}
use Rattle.sqlite.specs.Effect.{Database}
use Rattle.sqlite.specs.Held.{state}
use Rattle.land_select.proofs.verdict.conveyancer.read_pending_unit.Goals as goal

pub returns-then-not-branch-clause-reads_only : goal.returns-then-not-branch-clause-reads_only
returns-then-not-branch-clause-reads_only g c =
    let when : to_z w64 (of_z w64 c.args.at) ≡ c.args.at = search rules in
    let reads_only = rw when at c.in_ok-has_pending_mutation_on.ensures.reads_only in
    look_told (state g.S.Store c.args.conn.now) (state g.S.Store c.has_pending_mutation_on.new.conn) _ reads_only
    (λ clean is moments h held r have stand.
    none_names (has_pending_mutation_on r c.args.caller.party c.args.unit) (stands r kind.Unit c.args.unit) (sym c.if-not-branch.true ∙ is moments h held r have stand))

pub returns-clause-reads_only : goal.returns-clause-reads_only
returns-clause-reads_only g c =
    let a = state g.S.Store c.args.conn.now in
    let b = state g.S.Store c.has_pending_mutation_on.new.conn in
    let d = state g.S.Store c.unit_exists.new.conn in
    let t = c.args.at in
    let party = c.args.caller.party in
    let unit = c.args.unit in
    let there = c.in_ok-there.there in
    let when : to_z w64 (of_z w64 t) ≡ t = search rules in
    let both : IsStoreRead {X = Unit {0}} {E = ReadFault} (Ok tt) (λ _. ReadsPart (λ r. has_pending_mutation_on r party unit) t a.now.trees true × ReadsPart (λ r. stands r kind.Unit unit) t a.now.trees there) a d =
    look_then a b d (rw when at c.in_ok-has_pending_mutation_on.ensures.reads_only) (rw when at c.in_ok-there.ensures.reads_only)
    (λ clean same named one. (
      subst (λ (it : Bool). ReadsPart (λ r. has_pending_mutation_on r party unit) t a.now.trees it) c.if-not-branch.false named,
      subst (λ (now : Database). ReadsPart (λ r. stands r kind.Unit unit) t now.trees there) same one,
    )) in
    look_told a d _ both
    (λ clean both moments h held r have stand.
    one_names (has_pending_mutation_on r party unit) (stands r kind.Unit unit) (both.0 moments h held r have stand) there (both.1 moments h held r have stand))
