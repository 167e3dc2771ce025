use Rattle.std.proofs.Common.{◌≡◌, ◌∙◌, true, ap, subst, sym}
use Rattle.std.specs.List.{list_all}
use Rattle.land_tables_history.specs.Changed.{named_by, new_mutations}
use Rattle.land_tables_rows.proofs.Fitting.{all_names_fit}
use Rattle.land_tables_rows.specs.Naming.Writing.{fits_naming}
use Rattle.land_tables_rows.proofs.change_writing.kinds.begin_names.Goals as goal

pub begin_all-requires-clause-fits : goal.begin_all-requires-clause-fits
begin_all-requires-clause-fits g c =
    let named : c.as_slice-2.result.now ≡ named_by (new_mutations c.args.next c.args.put.now) = c.as_slice-2.ensures ∙ c.in_ok-names.ensures ∙ ap (λ l. named_by (new_mutations c.args.next l)) c.as_slice.ensures in
    subst (λ l. list_all fits_naming l ≡ true) (sym named) (all_names_fit c.args.next c.args.put.now c.requires.fits)
