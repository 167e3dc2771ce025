use Rattle.std.proofs.Common.{rules, ◌≡◌, subst, sym, to_z, of_z, w64}
use Rattle.land_core.specs.declared.kind.Kind.{Kind}
use Rattle.land_core.specs.declared.kind.Kind.TheVariants as kind
use Rattle.land_rules.specs.Denials.Sight.{is_visible_by_pending}
use Rattle.land_select.proofs.CachedValue.{told_alone}
use Rattle.land_select.specs.Cache.{IsFactWith}
use Rattle.land_select.specs.declared.cache.CachedValue.TheVariants as found
use Rattle.land_tables_schema.proofs.Looking.{look_told}
use Rattle.land_tables_schema.specs.Rows.ReadQueries.{IsStoreRead}
use Rattle.sqlite.specs.Held.{state}
use Rattle.land_select.proofs.verdict.conveyancer.is_pending.Goals as goal

pub returns-in_ok-is_pending-in-Unit-clause-reads_only : goal.returns-in_ok-is_pending-in-Unit-clause-reads_only
returns-in_ok-is_pending-in-Unit-clause-reads_only g c =
    let a = state g.S.Store c.args.conn.now in
    let caller = c.args.caller in
    let n = c.args.number in
    let t = c.args.at in
    let when : to_z w64 (of_z w64 t) ≡ t = search rules in
    let reads_only = rw when at c.in_ok-is_pending-in-Unit.ensures.reads_only in
    look_told a (state g.S.Store c.is_unit_pending.new.conn) _ reads_only
    (λ clean is.
    subst (λ (k : Kind). IsFactWith (λ r. is_visible_by_pending r caller k n) caller k n t a.now.trees (c.in_ok-is_pending-in-Unit.is_pending, found.Nothing)) (sym c.in-Unit.is) (told_alone c.soundness_by_number.ensures (λ r. is_visible_by_pending r caller kind.Unit n) caller kind.Unit n t a.now.trees c.in_ok-is_pending-in-Unit.is_pending is))

pub returns-in-Rrr-clause-reads_only : goal.returns-in-Rrr-clause-reads_only
returns-in-Rrr-clause-reads_only g c =
    let a = state g.S.Store c.args.conn.now in
    let caller = c.args.caller in
    let n = c.args.number in
    let t = c.args.at in
    let when : to_z w64 (of_z w64 t) ≡ t = search rules in
    let reads_only = rw when at c.read_pending_entry.ensures.reads_only in
    subst (λ (k : Kind). IsStoreRead c.read_pending_entry.result (IsFactWith (λ r. is_visible_by_pending r caller k n) caller k n t a.now.trees) a (state g.S.Store c.read_pending_entry.new.conn)) (sym c.in-Rrr.is) reads_only
