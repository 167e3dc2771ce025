-- Members are single parties in existing groups, over time.
use Rattle.std.proofs.Common.{◌≡◌, ◌↔◌, ℕ, Bool, true, false, cond, not, ◌&&◌, ◌||◌, List, [], ◌∷◌, length, Some, flat_map, map as map_list, refl, sym, ap, ap₂, ◌∙◌, arith}
use Rattle.std.specs.Prelude.{ℤ, int_lt}
use Rattle.std.proofs.lemmas.Bool.Decides.{nat_tests}
use Rattle.std.proofs.lemmas.List.Folds.{list_any-append}
use Rattle.std.proofs.lemmas.List.Sorted.{list_any-IsPermutation}
use Rattle.std.specs.Cmp.{nat_cmp_total}
use Rattle.std.specs.FinMap as map
use Rattle.std.specs.FinMap.{FinMap, nat_cmp-IsAntisymmetric}
use Rattle.std.specs.List.{AllByRecursion, list_all, list_any}
use Rattle.std.specs.Ordering.{eq_by_cmp, nat_cmp}
use Rattle.land_core.proofs.FiniteMaps.{none_is_not_some}
use Rattle.land_core.proofs.Reflection.{each_there}
use Rattle.land_core.specs.Members.{Members, member_with_share}
use Rattle.land_core.specs.Register.{has_group, has_single_party, is_single}
use Rattle.land_core.specs.Soundness.{has_dangling_members}
use Rattle.land_core.specs.declared.member.Member.{Member}
use Rattle.land_fraction.specs.Ratio.{Ratio}
use Rattle.land_tables_history.proofs.Distinct.{distinct_standing}
use Rattle.land_tables_history.proofs.MadeGroups.{made_groups}
use Rattle.land_tables_history.proofs.NamingTests.{any_standing}
use Rattle.land_tables_history.proofs.Proper.{AllProper, all_proper}
use Rattle.land_tables_history.specs.Groups.{HaveMembers, group_members, groups_at, with_member, joined_members, members_of_group, with_members}
use Rattle.land_tables_history.specs.History.{register_of_history}
use Rattle.land_tables_history.specs.Intervals.{AreApart, has_intervals, is_interval, is_same_member}
use Rattle.land_tables_history.specs.Standing.{current_values, is_current}
use Rattle.land_tables_history.specs.declared.group_member.GroupMember.{GroupMember}
use Rattle.land_tables_history.specs.declared.history.History.{History}
use Rattle.land_tables_history.specs.declared.moment.Moment.{Moment}
use Rattle.land_tables_history.specs.declared.version.Version.{Version}
use Rattle.land_tables_validity.specs.Members.{member_group, group_parties, group_spans, is_of_group, member_spans, party_of}
use Rattle.land_tables_validity.specs.Never.{Never}
use Rattle.land_tables_validity.specs.CoverageSpans.{are_in_range}
use Rattle.land_tables_validity.specs.Roles.{single_parties}
use Rattle.land_tables_validity.proofs.Covers.{any_alike, pieces_begin, stood_by}
use Rattle.land_tables_validity.proofs.Passing.{intervals_among, passes_at}
use Rattle.land_tables_validity.proofs.References.{also, both_pass, both_true, by_way_of, covered_at_stamps, fails, is_there, never_by, side_by_side}
use Rattle.land_tables_validity.proofs.RoleHolders.{single_at, singles_are_intervals}
use Rattle.land_tables_history.specs.Sweeps.Cover.{IsCovered}

-- ---- each current group has a member

some_there : (m : Members) (p : ℕ) (s : Ratio) → map.insert m p s ≡ map.empty → ⊥
some_there m p s empty =
    let found = map.get-insert nat_cmp_total m p s p ∙ ap (λ b. cond b (Some s) (map.get m p)) (itself p) in
    none_is_not_some (sym (map.get-empty nat_cmp p) ∙ ap (λ (n : Members). map.get n p) (sym empty) ∙ found)
  where
    itself : (p : ℕ) → eq_by_cmp nat_cmp p p ≡ true
    itself p = grind (arith, nat_tests)

have_more : (m : FinMap nat_cmp Members) (e : GroupMember) → HaveMembers m → HaveMembers (with_member m e)
have_more m e have q empty = go (eq_by_cmp nat_cmp q e.group) (sym (map.get-insert nat_cmp_total m e.group (joined_members m e) q) ∙ empty)
  where
    of_some : (a b : Members) → Some a ≡ Some b → a ≡ b
    of_some a b is = cc

    go : (b : Bool) → cond b (Some (joined_members m e)) (map.get m q) ≡ Some map.empty → ⊥
    go true is = some_there (members_of_group m e.group) e.member.party e.member.share (of_some (joined_members m e) map.empty is)
    go false is = have q is

have_all : (m : FinMap nat_cmp Members) (es : List GroupMember) → HaveMembers m → HaveMembers (with_members m es)
have_all m [] have = have
have_all m (e ∷ es) have = have_all (with_member m e) es (have_more m e have)

have_members : (t : ℤ) (vs : List (Version GroupMember)) → HaveMembers (groups_at t vs)
have_members t vs = have_all map.empty (current_values t vs) (λ q is. none_is_not_some (sym (map.get-empty nat_cmp q) ∙ is))

somebody : (groups : FinMap nat_cmp Members) → HaveMembers groups → (es : List (ℕ × Members))
    → AllByRecursion (λ e. map.get groups e.0 ≡ Some e.1) es
    → AllByRecursion (λ e. map.entries e.1 ≡ [] → ⊥) es
somebody groups have [] all = tt
somebody groups have (e ∷ es) all = (
  λ nobody. have e.0 (all.0 ∙ ap (λ (m : Members). Some m) (map.empty_of_len e.1 (map.len-entries e.1 ∙ ap length nobody))),
  somebody groups have es all.1,
)

-- ---- some group dangles if some member does

module _ (G S : ℕ → Bool) where
  -- a member is in an existing group, and is a single party
  abbrev is_well_listed : GroupMember → Bool
  is_well_listed m = G m.group && S m.member.party

  -- the members of one group
  abbrev listed : ℕ → List (ℕ × Ratio) → List GroupMember
  listed g es = map_list (λ (m : Member). record { group = g; member = m }) (map_list (λ e. member_with_share e.0 e.1) es)

  one_is_there : (a : Bool) (e : ℕ × Ratio) (es : List (ℕ × Ratio))
      → (not a || list_any (λ s. not (S s.0)) (e ∷ es)) ≡ list_any (λ s. not (a && S s.0)) (e ∷ es)
  one_is_there true e es = refl
  one_is_there false e es = refl

  each_listed : (g : ℕ) (es : List (ℕ × Ratio))
      → list_any (λ s. not (G g && S s.0)) es ≡ list_any (λ m. not (is_well_listed m)) (listed g es)
  each_listed g [] = refl
  each_listed g (e ∷ es) = ap (λ b. not (G g && S e.0) || b) (each_listed g es)

  one_group : (g : ℕ) (es : List (ℕ × Ratio)) → (es ≡ [] → ⊥)
      → (not (G g) || list_any (λ s. not (S s.0)) es) ≡ list_any (λ m. not (is_well_listed m)) (listed g es)
  one_group g [] some = absurd (some refl)
  one_group g (e ∷ es) some = one_is_there (G g) e es ∙ each_listed g (e ∷ es)

  each_group : (gs : List (ℕ × Members)) → AllByRecursion (λ g. map.entries g.1 ≡ [] → ⊥) gs
      → list_any (λ g. not (G g.0) || list_any (λ s. not (S s.0)) (map.entries g.1)) gs
      ≡ list_any (λ m. not (is_well_listed m)) (flat_map (λ g. listed g.0 (map.entries g.1)) gs)
  each_group [] all = refl
  each_group (g ∷ gs) all =
      let later = flat_map (λ (g : ℕ × Members). listed g.0 (map.entries g.1)) gs in
      ap₂ (λ b c. b || c) (one_group g.0 (map.entries g.1) all.0) (each_group gs all.1)
      ∙ sym (list_any-append (λ m. not (is_well_listed m)) (listed g.0 (map.entries g.1)) later)

  loose_groups : (t : ℤ) (vs : List (Version GroupMember)) → AreApart is_same_member vs
      → list_any (λ g. not (G g.0) || list_any (λ s. not (S s.0)) (map.entries g.1)) (map.entries (groups_at t vs))
      ≡ list_any (λ v. is_current t v && not (is_well_listed v.what)) vs
  loose_groups t vs apart =
      let groups = groups_at t vs in
      let some = somebody groups (have_members t vs) (map.entries groups) (each_there nat_cmp_total nat_cmp-IsAntisymmetric groups) in
      let made = made_groups (current_values t vs) (distinct_standing is_same_member t vs apart) in
      each_group (map.entries groups) some
      ∙ sym (list_any-IsPermutation (λ m. not (is_well_listed m)) (current_values t vs) (group_members groups) made)
      ∙ sym (any_standing t (λ m. not (is_well_listed m)) vs)

-- ---- a member refers to its group and to a party

module _ (moments : List Moment) (h : History) (p : AllProper moments h) where
  -- a group of this number exists
  group_at : (m : Moment) (n : ℕ) → has_group (register_of_history m.stamp h m.next) n ≡ stood_by (λ e. e.0) (group_parties h.parties) n m.stamp
  group_at m n = passes_at (λ party. not (is_single party.kind)) m.stamp h.parties p.parties.apart n

  groups_are_intervals : list_all (is_interval moments) (group_parties h.parties) ≡ true
  groups_are_intervals = intervals_among moments is_of_group h.parties p.parties.intervals

  abbrev is_group_there : ℤ → GroupMember → Bool
  is_group_there = is_there (λ e. e.0) (group_parties h.parties) member_group

  abbrev is_party_there : ℤ → GroupMember → Bool
  is_party_there = is_there (λ e. e.0) (single_parties h.parties) party_of

  loose_at : (m : Moment) → has_dangling_members (register_of_history m.stamp h m.next) ≡ fails (also is_group_there is_party_there) h.members m.stamp
  loose_at m =
      let r = register_of_history m.stamp h m.next in
      loose_groups (has_group r) (has_single_party r) m.stamp h.members p.members.apart
      ∙ any_alike (λ v. is_current m.stamp v && not (has_group r v.what.group && has_single_party r v.what.member.party))
      (λ v. is_current m.stamp v && not (also is_group_there is_party_there m.stamp v.what))
      (λ v. ap₂ (λ b c. is_current m.stamp v && not (b && c)) (group_at m v.what.group) (single_at moments h p m v.what.member.party)) h.members

  refer : are_in_range moments ≡ true
      → (IsCovered (group_spans h.parties h.members) × IsCovered (member_spans h.parties h.members)) ↔ Never has_dangling_members moments h
  refer in_time =
      let singles = singles_are_intervals moments h p in
      let ms = h.members in
      let groups = covered_at_stamps (λ e. e.0) (group_parties h.parties) member_group moments in_time ms groups_are_intervals p.members.intervals in
      let parties = covered_at_stamps (λ e. e.0) (single_parties h.parties) party_of moments in_time ms singles p.members.intervals in
      let never = never_by has_dangling_members h (also is_group_there is_party_there) h.members loose_at moments in
      by_way_of (side_by_side groups parties) (by_way_of (both_pass is_group_there is_party_there h.members moments) never)

-- groups and single parties exist throughout the lifespans of members if and only if they do at each stamp
pub members_refer : (moments : List Moment) (h : History) → has_intervals moments h ≡ true → are_in_range moments ≡ true → (a b : Bool)
    → (a ≡ true) ↔ IsCovered (group_spans h.parties h.members) → (b ≡ true) ↔ IsCovered (member_spans h.parties h.members)
    → ((a && b) ≡ true) ↔ Never has_dangling_members moments h
members_refer moments h intervals in_time a b groups parties =
    by_way_of (both_true a b) (by_way_of (side_by_side groups parties) (refer moments h (all_proper moments h intervals) in_time))

pub groups_begin : (moments : List Moment) (h : History) → has_intervals moments h ≡ true
    → list_all (λ x. int_lt x.since x.until) (group_spans h.parties h.members) ≡ true
groups_begin moments h intervals =
    let p = all_proper moments h intervals in
    pieces_begin moments (λ e. e.0) (group_parties h.parties) member_group h.members (groups_are_intervals moments h p) p.members.intervals

pub members_begin : (moments : List Moment) (h : History) → has_intervals moments h ≡ true
    → list_all (λ x. int_lt x.since x.until) (member_spans h.parties h.members) ≡ true
members_begin moments h intervals =
    let p = all_proper moments h intervals in
    pieces_begin moments (λ e. e.0) (single_parties h.parties) party_of h.members (singles_are_intervals moments h p) p.members.intervals
