use Rattle.std.proofs.Common.{rules, ◌≡◌, ℤ, Bool, Result, subst, sym, to_z, of_z, w64}
use Rattle.land_core.specs.Contents.{refers_to_unit_where}
use Rattle.land_core.specs.declared.caller.Caller.{Caller}
use Rattle.land_core.specs.declared.content.Content.{Content}
use Rattle.land_rules.specs.Denials.Interests.{interest_at, shows_unit}
use Rattle.land_select_queries.specs.Lookups.Parts.{ReadsPart}
use Rattle.land_tables_rows.specs.declared.listing.fault.ReadFault.{ReadFault}
use Rattle.land_tables_schema.specs.Rows.ReadQueries.{IsStoreRead}
use Rattle.sqlite.specs.Held.{state}
use Rattle.sqlite.specs.State.{State}
use Rattle.land_select.proofs.verdict.mutation.names_visible_unit.Goals as goal

-- equal contents refer to the same units
names : {result : Result Bool ReadFault} (a b : State) (caller : Caller) (t : ℤ) (one other : Content) → one ≡ other
    → IsStoreRead result (ReadsPart (λ r. refers_to_unit_where (λ unit. shows_unit (interest_at r caller unit)) one) t a.now.trees) a b
    → IsStoreRead result (ReadsPart (λ r. refers_to_unit_where (λ unit. shows_unit (interest_at r caller unit)) other) t a.now.trees) a b
names {result} a b caller t one other same reads_only =
    subst (λ content. IsStoreRead result (ReadsPart (λ r. refers_to_unit_where (λ unit. shows_unit (interest_at r caller unit)) content) t a.now.trees) a b) same reads_only

pub returns-in-Transfer-clause-reads_only : goal.returns-in-Transfer-clause-reads_only
returns-in-Transfer-clause-reads_only g c =
    let a = state g.S.Store c.args.conn.now in
    let when : to_z w64 (of_z w64 c.args.at) ≡ c.args.at = search rules in
    let reads_only = rw when at c.is_unit_shown.ensures.reads_only in
    names a (state g.S.Store c.is_unit_shown.new.conn) c.args.caller c.args.at _ _ (sym c.in-Transfer.is) reads_only

pub returns-in-Subdivision-clause-reads_only : goal.returns-in-Subdivision-clause-reads_only
returns-in-Subdivision-clause-reads_only g c =
    let a = state g.S.Store c.args.conn.now in
    let when : to_z w64 (of_z w64 c.args.at) ≡ c.args.at = search rules in
    let reads_only = rw when at c.is_unit_shown-in-Subdivision.ensures.reads_only in
    names a (state g.S.Store c.is_unit_shown-in-Subdivision.new.conn) c.args.caller c.args.at _ _ (sym c.in-Subdivision.is) reads_only

pub returns-in-Merger-clause-reads_only : goal.returns-in-Merger-clause-reads_only
returns-in-Merger-clause-reads_only g c =
    let a = state g.S.Store c.args.conn.now in
    let when : to_z w64 (of_z w64 c.args.at) ≡ c.args.at = search rules in
    let reads_only = rw when at c.is_merger_shown.ensures.reads_only in
    names a (state g.S.Store c.is_merger_shown.new.conn) c.args.caller c.args.at _ _ (sym c.in-Merger.is) reads_only

pub returns-in-Mortgage-clause-reads_only : goal.returns-in-Mortgage-clause-reads_only
returns-in-Mortgage-clause-reads_only g c =
    let a = state g.S.Store c.args.conn.now in
    let when : to_z w64 (of_z w64 c.args.at) ≡ c.args.at = search rules in
    let reads_only = rw when at c.is_unit_shown-in-Mortgage.ensures.reads_only in
    names a (state g.S.Store c.is_unit_shown-in-Mortgage.new.conn) c.args.caller c.args.at _ _ (sym c.in-Mortgage.is) reads_only

pub returns-in-Discharge-clause-reads_only : goal.returns-in-Discharge-clause-reads_only
returns-in-Discharge-clause-reads_only g c =
    let a = state g.S.Store c.args.conn.now in
    let when : to_z w64 (of_z w64 c.args.at) ≡ c.args.at = search rules in
    let reads_only = rw when at c.is_unit_shown-in-Discharge.ensures.reads_only in
    names a (state g.S.Store c.is_unit_shown-in-Discharge.new.conn) c.args.caller c.args.at _ _ (sym c.in-Discharge.is) reads_only
