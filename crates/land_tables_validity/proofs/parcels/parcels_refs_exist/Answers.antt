use Rattle.std.proofs.Common.{rules}
use Rattle.land_tables_history.proofs.Proper.{all_proper}
use Rattle.land_tables_validity.proofs.Covers.{pieces_begin}
use Rattle.land_tables_validity.proofs.ParcelReferences.{parcels_refer}
use Rattle.land_tables_validity.proofs.parcels.parcels_refs_exist.Goals as goal

pub all_exist-requires-whole : goal.all_exist-requires-whole
all_exist-requires-whole c =
    let h = c.args.history.now in
    let p = all_proper c.args.moments.now h c.requires.intervals in
    let nonempty =
    pieces_begin c.args.moments.now (λ e. e.0) h.units (λ e. e.1.unit) h.parcels p.units.intervals p.parcels.intervals in
    search rules

pub all_exist-requires-2-whole : goal.all_exist-requires-2-whole
all_exist-requires-2-whole c =
    let h = c.args.history.now in
    let p = all_proper c.args.moments.now h c.requires.intervals in
    let nonempty =
    pieces_begin c.args.moments.now (λ e. e.0) h.sources (λ e. e.1.source) h.parcels p.sources.intervals p.parcels.intervals in
    search rules

pub returns : goal.returns
returns c =
    parcels_refer c.args.moments.now c.args.history.now c.requires.intervals c.requires.in_time c.in_ok-units.units c.in_ok-sources.sources
    c.in_ok-units.ensures c.in_ok-sources.ensures
