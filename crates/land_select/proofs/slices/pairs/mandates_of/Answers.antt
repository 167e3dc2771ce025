use Rattle.std.proofs.Common.{rules, ◌≡◌, false, sym, ap, to_z, of_z, w64, ◌∙◌}
use Rattle.std.specs.Option.{option_map_or}
use Rattle.land_acts.specs.Slices.{is_same_mandate, names_mandate}
use Rattle.land_core.proofs.FiniteSets.{exact_mandates, mandates_total}
use Rattle.land_select.proofs.Keeping.{none_kept, same_kept}
use Rattle.land_select.proofs.NamedObjects.{mandate_named}
use Rattle.land_select.proofs.SlicedRegisters.{look_so, no_look_needed}
use Rattle.sqlite.specs.Held.{state}
use Rattle.land_select.proofs.slices.pairs.mandates_of.Goals as goal

pub returns-in-Some-clause-reads_only : goal.returns-in-Some-clause-reads_only
returns-in-Some-clause-reads_only g c =
    let caller = c.args.caller in
    let act = c.args.act.now in
    let it = c.in-Some.it in
    let when : to_z w64 (of_z w64 c.args.at) ≡ c.args.at = search rules in
    let reads_only = rw when at c.read_mandate.ensures.reads_only in
    look_so (state g.S.Store c.args.conn.now) (state g.S.Store c.read_mandate.new.conn) c.read_mandate.result reads_only
    (λ found is moments h held r have stands.
    is moments h held r have stands
    ∙ same_kept mandates_total exact_mandates (λ m u. is_same_mandate it m) (λ m u. names_mandate caller act m) r.mandates
    (λ m u. ap (λ o. option_map_or (λ one. is_same_mandate one m) o false) c.in-Some.ensures ∙ sym (mandate_named caller act m)))

pub returns-in-None : goal.returns-in-None
returns-in-None g c =
    let caller = c.args.caller in
    let act = c.args.act.now in
    record {
      reads_only = no_look_needed _ _ (state g.S.Store c.args.conn.now) c.requires.open
          (λ moments h held r have stands.
          c.new.ensures ∙ none_kept mandates_total exact_mandates r.mandates
          ∙ same_kept mandates_total exact_mandates (λ m u. false) (λ m u. names_mandate caller act m) r.mandates
          (λ m u. ap (λ o. option_map_or (λ one. is_same_mandate one m) o false) c.in-None.ensures ∙ sym (mandate_named caller act m)));
      autocommit = λ autocommit. autocommit;
    }
