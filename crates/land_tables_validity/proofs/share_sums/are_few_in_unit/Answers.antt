use Rattle.land_tables_validity.proofs.Counts.{few_of_all}
use Rattle.land_tables_validity.proofs.share_sums.are_few_in_unit.Goals as goal

pub returns-then-there-le256 : goal.returns-then-there-le256
returns-then-there-le256 c = few_of_all (λ x. x.what) c.args.there.now c.if-there-le256.true
