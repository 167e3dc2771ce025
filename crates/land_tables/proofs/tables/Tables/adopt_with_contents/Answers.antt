use Rattle.std.proofs.Common.{◌≡◌, false, of_z, to_z, w64, refl, rules, subst, sym}
use Rattle.std.specs.Prelude.{ℤ, ◌≤ℤ◌}
use Rattle.land_core.specs.Numbers.{last_moment}
use Rattle.land_tables.proofs.Adopted.{refused_holds_none}
use Rattle.land_tables.proofs.Judgements.{same_office}
use Rattle.land_tables.specs.Calls.{StaysOpenAndSame}
use Rattle.land_tables.specs.TableContents.{Finds}
use Rattle.land_tables.specs.TablesState.{IsConsistentState}
use Rattle.land_tables.specs.Registers.{version_2}
use Rattle.sqlite.specs.Effect.{Database}
use Rattle.sqlite.specs.Held.{state}
use Rattle.sqlite.specs.State.{HasCleanDisk}
use Rattle.land_tables.proofs.tables.Tables.adopt_with_contents.Goals as goal

pub returns-in-Ok-clause-adopted : goal.returns-in-Ok-clause-adopted
returns-in-Ok-clause-adopted g c =
    let a = state g.S.Store c.args.conn in
    let b = state g.S.Store c.open_v2_store.new.conn in
    let latest = c.in-Ok.latest in
    let judged = c.in-Ok.ensures.judgement in
    let stamp : to_z w64 (of_z w64 latest.stamp) ≡ latest.stamp = search rules in
    let same : HasCleanDisk b → StaysOpenAndSame a b = λ clean. judged.same clean (λ e. let it = e in cc) in
    record {
      is_open = refl;
      register = λ clean. (judged.register clean).register;
      office = λ clean. subst (λ z. IsConsistentState b z latest.next) (sym stamp) (same_office a b latest (same clean) (judged.register clean));
      same = same;
    }

pub returns-in-Ok-clause-finds : goal.returns-in-Ok-clause-finds
returns-in-Ok-clause-finds g c clean =
    let judged = c.in-Ok.ensures.judgement in
    let same = judged.same clean (λ e. let it = e in cc) in
    subst (λ (db : Database). Finds db.trees c.in-Ok.contents) (sym same.now) (c.in-Ok.ensures.contents clean).finds

pub returns-in-Err-clause-none : goal.returns-in-Err-clause-none
returns-in-Err-clause-none g c clean = refused_holds_none version_2 c.in-Err.fault (state g.S.Store c.args.conn).now (c.in-Err.ensures.judgement.refused clean)

pub invariant_of-result : goal.invariant_of-result
invariant_of-result g c =
    let a = state g.S.Store c.args.conn in
    let b = state g.S.Store c.open_v2_store.new.conn in
    let latest = c.in-Ok.latest in
    let judged = c.in-Ok.ensures.judgement in
    let stamp : to_z w64 (of_z w64 latest.stamp) ≡ latest.stamp = search rules in
    let begun : c.args.conn.in_transaction ≡ false = search rules in
    let same : HasCleanDisk b → StaysOpenAndSame a b = λ clean. judged.same clean (λ e. let it = e in cc) in
    record {
      alone = c.in-Ok.ensures.autocommit begun;
      moment = subst (λ (z : ℤ). z ≤ℤ last_moment) (sym stamp) c.in-Ok.ensures.moment;
      office = λ live. subst (λ z. IsConsistentState b z latest.next) (sym stamp) (same_office a b latest (same live.0) (judged.register live.0));
    }
