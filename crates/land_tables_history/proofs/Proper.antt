-- The ten lists of versions of a history with valid intervals.
use Rattle.std.proofs.Common.{◌≡◌, Bool, true, ◌&&◌, List}
use Rattle.std.specs.List.{list_all}
use Rattle.std.proofs.lemmas.Bool.{and_parts}
use Rattle.land_core.specs.Entries.{are_distinct}
use Rattle.land_tables_history.specs.Intervals.{AreAllApart, are_intervals, has_intervals, is_interval, is_same_grant, is_same_mandate, is_same_member, is_same_naming, is_same_number, overlap}
use Rattle.land_tables_history.specs.declared.history.History.{History}
use Rattle.land_tables_history.specs.declared.moment.Moment.{Moment}
use Rattle.land_tables_history.specs.declared.version.Version.{Version}

-- each lifespan of a list is an interval, and no two of one key overlap
pub record Proper {X : Type 0} (same : X → X → Bool) (moments : List Moment) (vs : List (Version X)) : Type 0 where
  pub intervals : list_all (is_interval moments) vs ≡ true
  pub apart : are_distinct (overlap same) vs ≡ true

proper : {X : Type 0} (same : X → X → Bool) (moments : List Moment) (vs : List (Version X)) → are_intervals same moments vs ≡ true → Proper same moments vs
proper same moments vs h = let parts = and_parts (list_all (is_interval moments) vs) (are_distinct (overlap same) vs) h in record { intervals = parts.0; apart = parts.1 }

pub record AllProper (moments : List Moment) (h : History) : Type 0 where
  pub parties : Proper is_same_number moments h.parties
  pub roles : Proper is_same_grant moments h.roles
  pub members : Proper is_same_member moments h.members
  pub units : Proper is_same_number moments h.units
  pub parcels : Proper is_same_number moments h.parcels
  pub rrrs : Proper is_same_number moments h.rrrs
  pub sources : Proper is_same_number moments h.sources
  pub mutations : Proper is_same_number moments h.mutations
  pub namings : Proper is_same_naming moments h.namings
  pub mandates : Proper is_same_mandate moments h.mandates

record Ten (a b c d e f g h i j : Bool) : Type 0 where
  one : a ≡ true
  two : b ≡ true
  three : c ≡ true
  four : d ≡ true
  five : e ≡ true
  six : f ≡ true
  seven : g ≡ true
  eight : h ≡ true
  nine : i ≡ true
  ten : j ≡ true

ten_of : (a b c d e f g h i j : Bool) → (a && b && c && d && e && f && g && h && i && j) ≡ true → Ten a b c d e f g h i j
ten_of a b c d e f g h i j all =
    let o = and_parts (a && b && c && d && e && f && g && h && i) j all in
    let p = and_parts (a && b && c && d && e && f && g && h) i o.0 in
    let q = and_parts (a && b && c && d && e && f && g) h p.0 in
    let r = and_parts (a && b && c && d && e && f) g q.0 in
    let s = and_parts (a && b && c && d && e) f r.0 in
    let t = and_parts (a && b && c && d) e s.0 in
    let u = and_parts (a && b && c) d t.0 in
    let v = and_parts (a && b) c u.0 in
    let w = and_parts a b v.0 in
    record { one = w.0; two = w.1; three = v.1; four = u.1; five = t.1; six = s.1; seven = r.1; eight = q.1; nine = p.1; ten = o.1 }

pub all_proper : (moments : List Moment) (h : History) → has_intervals moments h ≡ true → AllProper moments h
all_proper moments h intervals =
    let parts = ten_of (are_intervals is_same_number moments h.parties) (are_intervals is_same_grant moments h.roles) (are_intervals is_same_member moments h.members)
    (are_intervals is_same_number moments h.units) (are_intervals is_same_number moments h.parcels) (are_intervals is_same_number moments h.rrrs)
    (are_intervals is_same_number moments h.sources) (are_intervals is_same_number moments h.mutations) (are_intervals is_same_naming moments h.namings)
    (are_intervals is_same_mandate moments h.mandates) intervals in
    record {
      parties = proper is_same_number moments h.parties parts.one;
      roles = proper is_same_grant moments h.roles parts.two;
      members = proper is_same_member moments h.members parts.three;
      units = proper is_same_number moments h.units parts.four;
      parcels = proper is_same_number moments h.parcels parts.five;
      rrrs = proper is_same_number moments h.rrrs parts.six;
      sources = proper is_same_number moments h.sources parts.seven;
      mutations = proper is_same_number moments h.mutations parts.eight;
      namings = proper is_same_naming moments h.namings parts.nine;
      mandates = proper is_same_mandate moments h.mandates parts.ten;
    }

pub all_apart : (moments : List Moment) (h : History) → has_intervals moments h ≡ true → AreAllApart h
all_apart moments h intervals =
    let each = all_proper moments h intervals in
    record {
      parties = each.parties.apart;
      roles = each.roles.apart;
      members = each.members.apart;
      units = each.units.apart;
      parcels = each.parcels.apart;
      rrrs = each.rrrs.apart;
      sources = each.sources.apart;
      mutations = each.mutations.apart;
      namings = each.namings.apart;
      mandates = each.mandates.apart;
    }
