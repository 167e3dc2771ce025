use Rattle.land_tables_history.proofs.Proper.{all_proper}
use Rattle.land_tables_validity.proofs.BareUnits.{have_both, owners_are_intervals}
use Rattle.land_tables_validity.proofs.Covers.{pieces_begin}
use Rattle.land_tables_validity.specs.BareUnits.{entry_unit, record_number, ownerships, parcel_unit}
use Rattle.land_tables_validity.proofs.bare_units.have_parcels_and_owners.Goals as goal

pub have_parcels-requires : goal.have_parcels-requires
have_parcels-requires c =
    let h = c.args.history.now in
    let p = all_proper c.args.moments.now h c.requires.intervals in
    pieces_begin c.args.moments.now parcel_unit h.parcels record_number h.units p.parcels.intervals p.units.intervals

pub have_owners-requires : goal.have_owners-requires
have_owners-requires c =
    let h = c.args.history.now in
    let p = all_proper c.args.moments.now h c.requires.intervals in
    pieces_begin c.args.moments.now entry_unit (ownerships h.rrrs) record_number h.units
    (owners_are_intervals c.args.moments.now h.rrrs p.rrrs.intervals) p.units.intervals

pub returns : goal.returns
returns c =
    have_both c.args.moments.now c.args.history.now c.requires.intervals c.requires.in_time
    c.in_ok-parcels.parcels c.in_ok-owners.owners c.in_ok-parcels.ensures c.in_ok-owners.ensures
