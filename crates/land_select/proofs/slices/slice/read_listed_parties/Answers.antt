use Rattle.std.proofs.Common.{rules, ◌≡◌, false, subst, to_z, of_z, w64, Ok}
use Rattle.std.specs.FinMap as map
use Rattle.land_acts.specs.Slices.{includes_party}
use Rattle.land_core.specs.Entries.{entries_where}
use Rattle.land_select.proofs.SlicedRegisters.{all_gathered, included_gathered, roles_gathered}
use Rattle.land_select.specs.Slices.Gathered.{HoldsOfRegister, KnowsMore, numbers_if, with_numbers}
use Rattle.land_tables_rows.specs.declared.listing.fault.ReadFault.{ReadFault}
use Rattle.land_tables_schema.proofs.Looking.{look_fails, look_then}
use Rattle.land_tables_schema.specs.Rows.ReadQueries.{IsStoreRead}
use Rattle.sqlite.specs.Effect.{Database}
use Rattle.sqlite.specs.Held.{state}
use Rattle.sqlite_trees.specs.Tree.{Trees}
use Rattle.land_select.proofs.slices.slice.read_listed_parties.Goals as goal

pub returns-clause-reads_only : goal.returns-clause-reads_only
returns-clause-reads_only g c =
    let a = state g.S.Store c.args.conn.now in
    let b = state g.S.Store c.gather_all.new.conn in
    let d = state g.S.Store c.gather_included.new.conn in
    let e = state g.S.Store c.gather_included-2.new.conn in
    let t = c.args.at in
    let parts = c.args.parts in
    let ns = c.args.parties.now in
    let found = c.in_ok-found.found in
    let roles = c.in_ok-roles.roles in
    let members = c.in_ok-members.members in
    let when : to_z w64 (of_z w64 t) ≡ t = search rules in
    let Parties : Trees → Type 0 = λ db. KnowsMore (λ r asked it. it ≡ entries_where (λ n p. asked n) r.parties) (with_numbers ns) map.empty found t db in
    let Roles : Trees → Type 0 =
    λ db. HoldsOfRegister (λ r. map.empty ≡ entries_where (λ grant u. false) r.roles → roles ≡ entries_where (λ grant u. with_numbers (numbers_if parts.roles ns) (λ n. false) grant.party) r.roles) t db in
    let Members : Trees → Type 0 =
    λ db. HoldsOfRegister (λ r. map.empty ≡ entries_where (λ n m. false) r.members → members ≡ entries_where (λ n m. with_numbers (numbers_if parts.members ns) (λ n. false) n) r.members) t db in
    let two : IsStoreRead {X = Unit {0}} {E = ReadFault} (Ok tt) (λ _. Parties a.now.trees × Roles a.now.trees) a d =
    look_then a b d (rw (when, c.new.ensures) at c.in_ok-found.ensures.reads_only) (rw (when, c.new-2.ensures) at c.in_ok-roles.ensures.reads_only)
    (λ clean same one two. (one, subst (λ (now : Database). Roles now.trees) same two)) in
    look_then a d e two (rw (when, c.new-3.ensures) at c.in_ok-members.ensures.reads_only)
    (λ clean same both three moments h held r have stands act listed. record {
      parties = all_gathered r.parties (λ n p. n) ns (includes_party parts r act) found listed (λ nothing. both.0 moments h held r have stands (λ n. false) nothing);
      roles = roles_gathered r.roles parts.roles ns (includes_party parts r act) roles listed (both.1 moments h held r have stands);
      members = included_gathered r.members (λ n m. n) parts.members ns (includes_party parts r act) members listed (subst (λ (now : Database). Members now.trees) same three moments h held r have stands);
    })

pub returns-in_err-members-clause-reads_only : goal.returns-in_err-members-clause-reads_only
returns-in_err-members-clause-reads_only g c =
    let a = state g.S.Store c.args.conn.now in
    let d = state g.S.Store c.gather_included.new.conn in
    let two : IsStoreRead {X = Unit {0}} {E = ReadFault} (Ok tt) (λ _. Unit {0}) a d =
    look_then a (state g.S.Store c.gather_all.new.conn) d c.in_ok-found.ensures.reads_only c.in_ok-roles.ensures.reads_only (λ _ _ _ _. tt) in
    look_fails a d (state g.S.Store c.gather_included-2.new.conn) c.from_residual-in_err-members.result c.from_residual-in_err-members.ensures.0 two c.in_err-members.ensures.reads_only
