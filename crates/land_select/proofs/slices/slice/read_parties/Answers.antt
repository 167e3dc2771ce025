use Rattle.std.proofs.Common.{rules, ◌≡◌, ◌++◌, subst, to_z, of_z, w64}
use Rattle.std.specs.Prelude.{map as map_list}
use Rattle.land_core.specs.Grants.{grants_in}
use Rattle.land_core.specs.declared.act.Act.{Act}
use Rattle.land_acts.specs.Slices.{includes_party}
use Rattle.land_select.proofs.NamedObjects.{parties_listed}
use Rattle.land_select.specs.Slices.Gathered.{HoldsOfRegister, KnowsParties, numbers_if}
use Rattle.land_select.specs.Slices.Named.{lists, parties_of}
use Rattle.land_select_queries.proofs.Chains.{look_after}
use Rattle.sqlite.specs.Effect.{Database}
use Rattle.sqlite.specs.Held.{state}
use Rattle.land_select.proofs.slices.slice.read_parties.Goals as goal

pub returns-clause-reads_only : goal.returns-clause-reads_only
returns-clause-reads_only g c =
    let a = state g.S.Store c.args.conn.now in
    let t = c.args.at in
    let parts = c.args.parts in
    let act = c.args.act.now in
    let office = c.in_ok-office.office in
    let mutations = c.args.mutations.now in
    let numbers = numbers_if parts.parties (parties_of act mutations) ++ map_list (λ grant. grant.party) (grants_in office) in
    let when : to_z w64 (of_z w64 t) ≡ t = search rules in
    let known = rw (when, c.as_slice.ensures, c.in_ok-parties.ensures, c.in_ok-referenced.ensures) at c.read_listed_parties.ensures.reads_only in
    look_after a (state g.S.Store c.read_administrators.new.conn) (state g.S.Store c.read_listed_parties.new.conn) c.read_listed_parties.result (rw when at c.in_ok-office.ensures.reads_only) known
    (λ it clean same holds knows moments h held r have stands caller are.
    subst (λ (now : Database). HoldsOfRegister (λ r. (a : Act) → ((n : _) → lists numbers n ≡ includes_party parts r a n) → KnowsParties parts r a it) t now.trees) same knows moments h held r have stands act
    (parties_listed parts r caller act mutations office are (holds moments h held r have stands)))
