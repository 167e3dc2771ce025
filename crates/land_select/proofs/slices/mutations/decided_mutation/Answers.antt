use Rattle.std.proofs.Common.{rules, ◌≡◌, ◌∙◌, subst, to_z, of_z, w64}
use Rattle.land_core.specs.declared.kind.Kind.TheVariants as kind
use Rattle.land_select.proofs.Gathering.{single_kept}
use Rattle.land_select.proofs.SlicedRegisters.{look_so, no_look_needed}
use Rattle.land_select.specs.Cache.{IsValueOf}
use Rattle.land_select.specs.declared.cache.CachedValue.{CachedValue}
use Rattle.sqlite.specs.Held.{state}
use Rattle.land_select.proofs.slices.mutations.decided_mutation.Goals as goal

pub returns-in_ok-only_mutation-in-Mutations-clause-reads_only : goal.returns-in_ok-only_mutation-in-Mutations-clause-reads_only
returns-in_ok-only_mutation-in-Mutations-clause-reads_only g c =
    no_look_needed _ _ (state g.S.Store c.args.conn.now) c.requires.open
    (λ moments h held r have stands caller is.
    c.in_ok-only_mutation-in-Mutations.ensures ∙ single_kept r.mutations c.args.number _ (subst (λ (known : CachedValue). IsValueOf r caller kind.Mutation c.args.number known) c.in-Mutations.is is))

pub returns-in_default : goal.returns-in_default
returns-in_default g c =
    let a = state g.S.Store c.args.conn.now in
    let b = state g.S.Store c.read_mutation_records.new.conn in
    let when : to_z w64 (of_z w64 c.args.at) ≡ c.args.at = search rules in
    let reads_only = rw when at c.read_mutation_records.ensures.reads_only in
    record {
      reads_only = look_so a b c.read_mutation_records.result reads_only (λ it read moments h held r have stands caller is. read moments h held r have stands);
      autocommit = c.read_mutation_records.ensures.autocommit;
    }
