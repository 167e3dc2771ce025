use Rattle.land_tables_history.proofs.Proper.{all_proper}
use Rattle.land_tables_validity.proofs.NamedUnits.{namings_agree}
use Rattle.land_tables_validity.proofs.PairCovers.{pairs_begin}
use Rattle.land_tables_validity.specs.NamedUnits.{named_pairs, naming_pair}
use Rattle.land_tables_validity.proofs.namings.match_mutation_units.Goals as goal

pub are_namings_in_contents-requires : goal.are_namings_in_contents-requires
are_namings_in_contents-requires c =
    let h = c.args.history.now in
    let p = all_proper c.args.moments.now h c.requires.intervals in
    pairs_begin c.args.moments.now named_pairs h.mutations naming_pair h.namings p.mutations.intervals p.namings.intervals

pub are_contents_in_namings-requires : goal.are_contents_in_namings-requires
are_contents_in_namings-requires c =
    let h = c.args.history.now in
    let p = all_proper c.args.moments.now h c.requires.intervals in
    pairs_begin c.args.moments.now naming_pair h.namings named_pairs h.mutations p.namings.intervals p.mutations.intervals

pub returns : goal.returns
returns c =
    namings_agree c.args.moments.now c.args.history.now c.requires.intervals c.requires.in_time
    c.in_ok-computes.computes c.in_ok-listed.listed c.in_ok-computes.ensures c.in_ok-listed.ensures
