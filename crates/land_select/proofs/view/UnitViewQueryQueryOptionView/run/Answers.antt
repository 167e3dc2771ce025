use Rattle.land_select.proofs.view.UnitViewQueryQueryOptionView.run.Goals as goal

pub returns-clause-reads_only : goal.returns-clause-reads_only
returns-clause-reads_only g c = c.view.ensures.reads_only
