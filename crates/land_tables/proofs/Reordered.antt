-- Versions represent the same timeline in any order.
use Rattle.std.proofs.Common.{◌≡◌, Bool, ◌&&◌, List, map, filter, ◌∙◌, IsPermutation}
use Rattle.std.specs.Prelude.{ℤ}
use Rattle.std.proofs.lemmas.List.Sorted.{IsPermutation-map, IsPermutation-sym, IsPermutation-trans}
use Rattle.land_core.specs.declared.register.Register.{Register}
use Rattle.land_keep.specs.Timeline.{last_stamp, register_at}
use Rattle.land_tables.specs.Timelines.{version_moment}
use Rattle.land_tables.specs.Timelines.Laws.{IsReordered, OrderDoesNotMatter}
use Rattle.land_tables_history.proofs.Permutations.{all_permuted, filter_permuted}
use Rattle.land_tables_history.specs.History.{IsRegisterAt}
use Rattle.land_tables_history.specs.Open.{has_ended, have_ended}
use Rattle.land_tables_history.specs.Standing.{current_values, is_current}
use Rattle.land_tables_history.specs.declared.history.History.{History}
use Rattle.land_tables_history.specs.declared.version.Version.{Version}

-- the versions at a moment, if the ones in the first order are a permutation of a list
stand_too : {X : Type 0} (t : ℤ) (one other : List (Version X)) (records : List X) → IsPermutation one other → IsPermutation (current_values t one) records → IsPermutation (current_values t other) records
stand_too t one other records p h =
    IsPermutation-trans (current_values t other) (current_values t one) records
    (IsPermutation-sym (current_values t one) (current_values t other) (IsPermutation-map (λ v. v.what) (filter (is_current t) one) (filter (is_current t) other) (filter_permuted (is_current t) one other p))) h

pub ten : {a b c d e f g h i j k l m n o p q r s t : Bool} → a ≡ k → b ≡ l → c ≡ m → d ≡ n → e ≡ o → f ≡ p → g ≡ q → h ≡ r → i ≡ s → j ≡ t
    → (a && b && c && d && e && f && g && h && i && j) ≡ (k && l && m && n && o && p && q && r && s && t)
ten a b c d e f g h i j = cc

pub ended_too : (last : ℤ) (one other : History) → IsReordered one other → have_ended last other ≡ have_ended last one
ended_too last one other same =
    ten (all_permuted (has_ended last) one.parties other.parties same.parties) (all_permuted (has_ended last) one.roles other.roles same.roles)
    (all_permuted (has_ended last) one.members other.members same.members) (all_permuted (has_ended last) one.units other.units same.units)
    (all_permuted (has_ended last) one.parcels other.parcels same.parcels) (all_permuted (has_ended last) one.rrrs other.rrrs same.rrrs)
    (all_permuted (has_ended last) one.sources other.sources same.sources) (all_permuted (has_ended last) one.mutations other.mutations same.mutations)
    (all_permuted (has_ended last) one.namings other.namings same.namings) (all_permuted (has_ended last) one.mandates other.mandates same.mandates)

pub stands_too : (t : ℤ) (one other : History) (r : Register) → IsReordered one other → IsRegisterAt t one r → IsRegisterAt t other r
stands_too t one other r same h = record {
  parties = stand_too t one.parties other.parties _ same.parties h.parties;
  roles = stand_too t one.roles other.roles _ same.roles h.roles;
  members = stand_too t one.members other.members _ same.members h.members;
  units = stand_too t one.units other.units _ same.units h.units;
  parcels = stand_too t one.parcels other.parcels _ same.parcels h.parcels;
  rrrs = stand_too t one.rrrs other.rrrs _ same.rrrs h.rrrs;
  sources = stand_too t one.sources other.sources _ same.sources h.sources;
  mutations = stand_too t one.mutations other.mutations _ same.mutations h.mutations;
  namings = stand_too t one.namings other.namings _ same.namings h.namings;
  mandates = stand_too t one.mandates other.mandates _ same.mandates h.mandates;
}

pub reordered : OrderDoesNotMatter
reordered moments others one other tl stands p same = record {
  moments = IsPermutation-trans (map version_moment tl) moments others stands.moments p;
  stands = λ t is. stands_too t one other (register_at tl t) same (stands.stands t is);
  ended = ended_too (last_stamp tl) one other same ∙ stands.ended;
}
