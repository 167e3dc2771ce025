use Rattle.std.proofs.Common.{◌≡◌, ◌↔◌, Bool, true, subst, sym}
use Rattle.land_tables_validity.proofs.LawfulHistories.{all_once}
use Rattle.land_tables_validity.specs.Conditions.{HaveNoDuplicates}
use Rattle.land_tables_validity.proofs.valid_history.have_no_duplicates.Goals as goal

pub returns : goal.returns
returns c = subst (λ (b : Bool). (b ≡ true) ↔ HaveNoDuplicates c.args.moments.now c.args.history.now) (sym c.are_both.ensures)
    (all_once c.args.moments.now c.args.history.now c.in_ok-entries.entries c.in_ok-references.references c.in_ok-entries.ensures c.in_ok-references.ensures)
