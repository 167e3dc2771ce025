-- The decoded value of tables is one history, up to order, and represents one timeline.
use Rattle.std.proofs.Common.{◌≡◌, List}
use Rattle.land_keep.specs.Timeline.{IsSoundTimeline, Timeline}
use Rattle.land_tables.specs.Standing.{HoldsTimeline, decoded_timeline}
use Rattle.land_tables.specs.Timelines.{RepresentsTimeline}
use Rattle.land_tables.specs.Timelines.Laws.{IsReordered, OrderDoesNotMatter, HistoriesRepresentOneTimeline}
use Rattle.land_tables_history.specs.declared.history.History.{History}
use Rattle.land_tables_history.specs.declared.moment.Moment.{Moment}
use Rattle.land_tables_rows.proofs.ToldTables.{says_same, told_is}
use Rattle.land_tables_rows.specs.Listing.Reading.{Says, DecodesHistory, mandates, members, moments, mutations, namings, parcels, parties, roles, rrrs, sources, units}
use Rattle.land_tables_rows.specs.Listing.Told.{decoded_history, decode_rows}
use Rattle.land_tables_rows.specs.Writing.History.{HoldsHistory}
use Rattle.sqlite_trees.specs.Tree.{Trees}

-- histories that the tables decode to are permutations of one another
pub says_reordered : (db : Trees) (one other : History) → DecodesHistory db one → DecodesHistory db other → IsReordered one other
says_reordered db one other a b = record {
  parties = says_same parties db one.parties other.parties a.parties b.parties;
  roles = says_same roles db one.roles other.roles a.roles b.roles;
  members = says_same members db one.members other.members a.members b.members;
  units = says_same units db one.units other.units a.units b.units;
  parcels = says_same parcels db one.parcels other.parcels a.parcels b.parcels;
  rrrs = says_same rrrs db one.rrrs other.rrrs a.rrrs b.rrrs;
  sources = says_same sources db one.sources other.sources a.sources b.sources;
  mutations = says_same mutations db one.mutations other.mutations a.mutations b.mutations;
  namings = says_same namings db one.namings other.namings a.namings b.namings;
  mandates = says_same mandates db one.mandates other.mandates a.mandates b.mandates;
}

pub told_reordered : (db : Trees) (h : History) → DecodesHistory db h → IsReordered h (decoded_history db)
told_reordered db h a = record {
  parties = told_is parties db h.parties a.parties;
  roles = told_is roles db h.roles a.roles;
  members = told_is members db h.members a.members;
  units = told_is units db h.units a.units;
  parcels = told_is parcels db h.parcels a.parcels;
  rrrs = told_is rrrs db h.rrrs a.rrrs;
  sources = told_is sources db h.sources a.sources;
  mutations = told_is mutations db h.mutations a.mutations;
  namings = told_is namings db h.namings a.namings;
  mandates = told_is mandates db h.mandates a.mandates;
}

-- tables that hold a history decode to it
pub held_is_said : (db : Trees) (listed : List Moment) (h : History) → HoldsHistory db listed h → DecodesHistory db h
held_is_said db listed h held = record {
  parties = held.the_parties.said;
  roles = held.the_roles.said;
  members = held.the_members.said;
  units = held.the_units.said;
  parcels = held.the_parcels.said;
  rrrs = held.the_rrrs.said;
  sources = held.the_sources.said;
  mutations = held.the_mutations.said;
  namings = held.the_namings.said;
  mandates = held.the_mandates.said;
}

module _ (one : HistoriesRepresentOneTimeline) (order : OrderDoesNotMatter) (db : Trees) (tl : Timeline) (holds : HoldsTimeline db tl) where
  -- tables that represent a sound timeline decode to it
  pub tells : IsSoundTimeline tl → decoded_timeline db ≡ tl
  tells sound = one (decode_rows moments db) (decoded_history db) tl
      (order holds.listed (decode_rows moments db) holds.history (decoded_history db) tl holds.stands (told_is moments db holds.listed holds.holds.the_moments)
      (told_reordered db holds.history (held_is_said db holds.listed holds.history holds.holds))) sound

  -- any history read from tables that represent a timeline represents it
  pub read_stands : (listed : List Moment) (h : History) → Says moments db listed → DecodesHistory db h → RepresentsTimeline listed h tl
  read_stands listed h the_moments the_history = order holds.listed listed holds.history h tl holds.stands (says_same moments db holds.listed listed holds.holds.the_moments the_moments)
      (says_reordered db holds.history h (held_is_said db holds.listed holds.history holds.holds) the_history)
