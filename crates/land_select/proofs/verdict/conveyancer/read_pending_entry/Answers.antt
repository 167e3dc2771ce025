use Rattle.std.proofs.Common.{rules, ◌≡◌, ap, false, subst, sym, to_z, of_z, w64, ◌∙◌}
use Rattle.std.specs.Option.{option_map_or}
use Rattle.land_core.specs.declared.kind.Kind.TheVariants.{Rrr}
use Rattle.land_core.specs.declared.rrr.RrrRecord.{RrrRecord}
use Rattle.land_rules.specs.Relations.{has_pending_mutation_on}
use Rattle.land_select.proofs.CachedValue.{found_told}
use Rattle.land_select.proofs.Viewed.{have_members}
use Rattle.land_select_queries.specs.Lookups.Parts.{ReadsPart}
use Rattle.land_tables_schema.proofs.Looking.{look_fails, look_then, look_told}
use Rattle.sqlite.specs.Effect.{Database}
use Rattle.sqlite.specs.Held.{state}
use Rattle.land_select.proofs.verdict.conveyancer.read_pending_entry.Goals as goal

pub returns-in_err-is_pending-in-Some-clause-reads_only : goal.returns-in_err-is_pending-in-Some-clause-reads_only
returns-in_err-is_pending-in-Some-clause-reads_only g c =
    look_fails (state g.S.Store c.args.conn.now) (state g.S.Store c.record.new.conn) (state g.S.Store c.has_pending_mutation_on.new.conn) c.from_residual-in_err-is_pending-in-Some.result c.from_residual-in_err-is_pending-in-Some.ensures.0 c.in_ok-found.ensures.reads_only c.in_err-is_pending-in-Some.ensures.reads_only

pub returns-in_ok-is_pending-in-Some-clause-reads_only : goal.returns-in_ok-is_pending-in-Some-clause-reads_only
returns-in_ok-is_pending-in-Some-clause-reads_only g c =
    let a = state g.S.Store c.args.conn.now in
    let d = state g.S.Store c.has_pending_mutation_on.new.conn in
    let caller = c.args.caller in
    let n = c.args.number in
    let t = c.args.at in
    let entry = c.in-Some.entry in
    let when : to_z w64 (of_z w64 t) ≡ t = search rules in
    look_then a (state g.S.Store c.record.new.conn) d (rw when at c.in_ok-found.ensures.reads_only) (rw when at c.in_ok-is_pending-in-Some.ensures.reads_only)
    (λ clean same is named moments h held r premise stands.
    let have = have_members c.soundness_by_number.ensures r premise in
    let there = sym c.in-Some.is ∙ is moments h held r have stands in (
      subst (λ (now : Database). ReadsPart (λ r. has_pending_mutation_on r caller.party entry.unit) t now.trees c.in_ok-is_pending-in-Some.is_pending) same named moments h held r have stands
          ∙ ap (λ o. option_map_or (λ (e : RrrRecord). has_pending_mutation_on r caller.party e.unit) o false) there,
      found_told r caller Rrr n _ _ c.cached_object.ensures (c.build_object.ensures r there),
    ))

pub returns-in-None-clause-reads_only : goal.returns-in-None-clause-reads_only
returns-in-None-clause-reads_only g c =
    let party = c.args.caller.party in
    let when : to_z w64 (of_z w64 c.args.at) ≡ c.args.at = search rules in
    let reads_only = rw when at c.in_ok-found.ensures.reads_only in
    look_told (state g.S.Store c.args.conn.now) (state g.S.Store c.record.new.conn) _ reads_only
    (λ clean is moments h held r premise stands.
    (ap (λ o. option_map_or (λ (e : RrrRecord). has_pending_mutation_on r party e.unit) o false) (sym c.in-None.is ∙ is moments h held r (have_members c.soundness_by_number.ensures r premise) stands), tt))
