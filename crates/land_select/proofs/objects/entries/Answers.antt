use Rattle.std.proofs.Common.{rules, ◌≡◌, Ok, subst, sym, to_z, of_z, w64}
use Rattle.land_core.specs.Entries.{entries_where}
use Rattle.land_core.specs.declared.kind.Kind.TheVariants as kind
use Rattle.land_core.specs.declared.register.Register.{Register}
use Rattle.land_select.proofs.Listing.{register_of_entries}
use Rattle.land_select.specs.Listing.{ListsAlike}
use Rattle.land_select_queries.specs.Lookups.Parties.{ArePartiesWithin}
use Rattle.land_select_queries.specs.Lookups.Parts.{ReadsPart}
use Rattle.land_select_queries.specs.Lookups.Ranges.{is_within}
use Rattle.land_tables_rows.specs.declared.listing.fault.ReadFault.{ReadFault}
use Rattle.land_tables_schema.proofs.Looking.{look_fails, look_lost, look_then, look_told}
use Rattle.land_tables_schema.specs.Rows.ReadQueries.{IsStoreRead}
use Rattle.sqlite.specs.Effect.{Database}
use Rattle.sqlite.specs.Held.{state}
use Rattle.land_select.proofs.objects.entries.Goals as goal

pub returns-in_err-parties-clause-reads_only : goal.returns-in_err-parties-clause-reads_only
returns-in_err-parties-clause-reads_only g c =
    look_fails (state g.S.Store c.args.conn.now) (state g.S.Store c.records.new.conn) (state g.S.Store c.parties_within.new.conn) c.from_residual-in_err-parties.result c.from_residual-in_err-parties.ensures.0 c.in_ok-found.ensures.reads_only c.in_err-parties.ensures.reads_only

pub returns-in_err-register_of_entries-clause-reads_only : goal.returns-in_err-register_of_entries-clause-reads_only
returns-in_err-register_of_entries-clause-reads_only g c =
    let a = state g.S.Store c.args.conn.now in
    let d = state g.S.Store c.parties_within.new.conn in
    let two : IsStoreRead {X = Unit {0}} {E = ReadFault} (Ok tt) (λ _. Unit {0}) a d = look_then a (state g.S.Store c.records.new.conn) d c.in_ok-found.ensures.reads_only c.in_ok-parties.ensures.reads_only (λ _ _ _ _. tt) in
    look_lost a d c.from_residual-in_err-register_of_entries.result c.from_residual-in_err-register_of_entries.ensures.0 two

pub returns-clause-reads_only : goal.returns-clause-reads_only
returns-clause-reads_only g c =
    let a = state g.S.Store c.args.conn.now in
    let b = state g.S.Store c.records.new.conn in
    let d = state g.S.Store c.parties_within.new.conn in
    let t = c.args.at in
    let first = c.args.first in
    let last = c.args.last in
    let when : to_z w64 (of_z w64 t) ≡ t = search rules in
    let found = c.in_ok-found.found in
    let parties = c.in_ok-parties.parties in
    let both : IsStoreRead {X = Unit {0}} {E = ReadFault} (Ok tt) (λ _. ReadsPart (λ r. entries_where (λ n v. is_within first last n) r.rrrs) t a.now.trees found × ArePartiesWithin first last t a.now.trees parties) a d =
    look_then a b d (rw when at c.in_ok-found.ensures.reads_only) (rw when at c.in_ok-parties.ensures.reads_only)
    (λ clean same one two. (one, subst (λ (now : Database). ArePartiesWithin first last t now.trees parties) same two)) in
    let made = rw c.as_slice.ensures at c.in_ok-register_of_entries.ensures in
    look_told a d _ both
    (λ clean known moments h held r have stands.
    subst (λ (it : Register). ListsAlike kind.Rrr first last it r) (sym made) (register_of_entries found _ r first last (known.0 moments h held r have stands) (known.1 moments h held r stands)))
