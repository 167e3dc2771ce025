use Rattle.land_digest.specs.Laws.{HaveSameVersions}
use Rattle.land_tables.proofs.Tellings.{says_reordered}
use Rattle.land_tables.specs.Timelines.Laws.{IsReordered}
use Rattle.land_tables_history.specs.declared.history.History.{History}
use Rattle.land_tables_rows.proofs.ToldTables.{says_same}
use Rattle.land_tables_rows.specs.Listing.Reading.{moments}
use Rattle.land_tables.proofs.digest_laws.tables_have_one_text.Goals as goal

same_versions : (h k : History) → IsReordered h k → HaveSameVersions h k
same_versions h k it = record {
  parties = it.parties;
  roles = it.roles;
  members = it.members;
  units = it.units;
  parcels = it.parcels;
  rrrs = it.rrrs;
  sources = it.sources;
  mutations = it.mutations;
  namings = it.namings;
  mandates = it.mandates;
}

pub returns : goal.returns
returns c db ones others h k first second one other one_ok other_ok =
    let same = says_same moments db ones others first second in (
      λ t. c.text_ignores_row_order.ensures ones others h k t one_ok other_ok same (same_versions h k (says_reordered db h k one other)),
      λ at. c.last_stamp_ignores_order.ensures ones others at same,
    )
