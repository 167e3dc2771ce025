-- Groups over time: 2 to 64 members whose shares sum to one.
use Rattle.std.proofs.Common.{◌≡◌, ◌↔◌, ℕ, Bool, true, false, cond, not, ◌&&◌, ◌||◌, List, [], ◌∷◌, ◌++◌, Option, Some, None, filter, flat_map, map as map_list, refl, sym, ap, ap₂, ◌∙◌, arith, IsPermutation}
use Rattle.std.specs.Prelude.{ℤ, nat_eq}
use Rattle.std.proofs.lemmas.Bool.Decides.{nat_tests}
use Rattle.std.proofs.lemmas.List.Elements.{filter_map-append}
use Rattle.std.proofs.lemmas.List.Folds.{list_any-append}
use Rattle.std.specs.FinMap as map
use Rattle.std.specs.FinMap.{find, is_sorted}
use Rattle.std.specs.FinMap.Entries.{below_all}
use Rattle.std.specs.List.{cons_option, filter_map, list_all, list_any}
use Rattle.std.specs.Option.{option_map_or}
use Rattle.std.specs.Ordering.{eq_by_cmp, is_lt, nat_cmp}
use Rattle.std.proofs.lemmas.Bool.{and_from, and_parts, eqb-true}
use Rattle.land_core.proofs.Booleans.{T_true, or_nothing}
use Rattle.land_core.proofs.UnitLists.{filter_map-items_of_unit, list_any-items_of_unit}
use Rattle.land_core.specs.ByUnit.{items_of_unit}
use Rattle.land_core.specs.Members.{Members, are_group_shares, member_with_share, shares_in}
use Rattle.land_core.specs.Register.{is_single, shares_of}
use Rattle.land_core.specs.Soundness.{has_broken_group}
use Rattle.land_core.specs.declared.member.Member.{Member}
use Rattle.land_core.specs.declared.party.PartyRecord.{PartyRecord}
use Rattle.land_core.specs.declared.register.Register.{Register}
use Rattle.land_fraction.specs.Ratio.{Ratio}
use Rattle.land_tables_history.proofs.Distinct.{distinct_standing}
use Rattle.land_tables_history.proofs.MadeGroups.{made_groups}
use Rattle.land_tables_history.proofs.Proper.{AllProper, all_proper}
use Rattle.land_tables_history.specs.Groups.{group_members, groups_at}
use Rattle.land_tables_history.specs.History.{register_of_history}
use Rattle.land_tables_history.specs.Intervals.{has_intervals, is_interval, is_same_member}
use Rattle.land_tables_history.specs.Standing.{current_values, is_current}
use Rattle.land_tables_history.specs.declared.group_member.GroupMember.{GroupMember}
use Rattle.land_tables_history.specs.declared.history.History.{History}
use Rattle.land_tables_history.specs.declared.moment.Moment.{Moment}
use Rattle.land_tables_history.specs.declared.version.Version.{Version}
use Rattle.land_tables_validity.specs.AnyOrder.{filter_map_permuted, group_permuted}
use Rattle.land_tables_validity.specs.Memberships.{are_members_sound, are_members_whole, group_joined, groups_among, group_live_spans, is_group, member_joined, member_share, member_shares, member_live_spans, memberships_in}
use Rattle.land_tables_validity.specs.Never.{Never}
use Rattle.land_tables_validity.specs.CoverageSpans.{are_in_range}
use Rattle.land_tables_validity.specs.declared.groups.Membership.{Membership}
use Rattle.land_tables_validity.proofs.Together.{AreLives, Ties, all_live, is_at_fault, is_marked, lives-append, never, none_marked, none_taken, some_standing, values_under_key-append, stood}
use Rattle.land_tables_history.specs.Sweeps.Sweep.{AreSound, values_under_key}

-- ---- parties that are groups

abbrev is_group_kind : PartyRecord → Bool
is_group_kind p = not (is_single p.kind)

abbrev is_named : ℕ → ℕ × PartyRecord → Bool
is_named n e = nat_eq e.0 n && true

abbrev whats : List (Version (ℕ × PartyRecord)) → List (ℕ × PartyRecord)
whats vs = map_list (λ v. v.what) vs

never_marked : (a r s : Bool) → r ≡ s → r ≡ (a && false || s)
never_marked true r s h = h
never_marked false r s h = h

-- a current group is a current party of that kind
groups_stand : (n : ℕ) (t : ℤ) (vs : List (Version (ℕ × PartyRecord)))
    → list_any (is_named n) (current_values t (groups_among vs)) ≡ is_marked is_group_kind n (current_values t vs)
groups_stand n t [] = refl
groups_stand n t (v ∷ vs) = go (is_group_kind v.what.1) (is_current t v) refl refl (groups_stand n t vs)
  where
    with_it : (c : Bool) (ws : List (Version (ℕ × PartyRecord))) → is_current t v ≡ c
        → current_values t (v ∷ ws) ≡ whats (cond c (v ∷ filter (is_current t) ws) (filter (is_current t) ws))
    with_it c ws is = ap (λ k. whats (cond k (v ∷ filter (is_current t) ws) (filter (is_current t) ws))) is

    go : (b c : Bool) → is_group_kind v.what.1 ≡ b → is_current t v ≡ c
        → list_any (is_named n) (current_values t (groups_among vs)) ≡ is_marked is_group_kind n (current_values t vs)
        → list_any (is_named n) (current_values t (cond b (v ∷ groups_among vs) (groups_among vs)))
        ≡ is_marked is_group_kind n (whats (cond c (v ∷ filter (is_current t) vs) (filter (is_current t) vs)))
    go true true is now h =
        ap (list_any (is_named n)) (with_it true (groups_among vs) now) ∙ ap₂ (λ a b. a || b) (ap (λ k. nat_eq v.what.0 n && k) (sym is)) h
    go true false is now h = ap (list_any (is_named n)) (with_it false (groups_among vs) now) ∙ h
    go false true is now h =
        let groups = list_any (is_named n) (current_values t (groups_among vs)) in
        let parties = is_marked is_group_kind n (current_values t vs) in
        never_marked (nat_eq v.what.0 n) groups parties h ∙ ap (λ k. nat_eq v.what.0 n && k || parties) (sym is)
    go false false is now h = h

groups_begin : (moments : List Moment) (vs : List (Version (ℕ × PartyRecord))) → list_all (is_interval moments) vs ≡ true
    → list_all (is_interval moments) (groups_among vs) ≡ true
groups_begin moments [] all = refl
groups_begin moments (v ∷ vs) all = go (is_group_kind v.what.1) (groups_begin moments vs parts.1)
  where
    parts : (is_interval moments v ≡ true) × (list_all (is_interval moments) vs ≡ true)
    parts = and_parts (is_interval moments v) (list_all (is_interval moments) vs) all

    go : (b : Bool) → list_all (is_interval moments) (groups_among vs) ≡ true
        → list_all (is_interval moments) (cond b (v ∷ groups_among vs) (groups_among vs)) ≡ true
    go true h = and_from (is_interval moments v) (list_all (is_interval moments) (groups_among vs)) parts.0 h
    go false h = h

-- ---- the shares of the members of one group

-- the share of a member of a group
abbrev share_in_group : ℕ → GroupMember → Option Ratio
share_in_group n m = cond (nat_eq m.group n) (Some m.member.share) None

abbrev one_of : ℕ → Member → GroupMember
one_of group member = record { group = group; member = member }

-- the members of a group, as a list
abbrev listed_in : ℕ → List (ℕ × Ratio) → List GroupMember
listed_in g es = map_list (one_of g) (map_list (λ (e : ℕ × Ratio). member_with_share e.0 e.1) es)

abbrev listed : ℕ × Members → List GroupMember
listed g = listed_in g.0 (map.entries g.1)

differs : (a b : ℕ) → is_lt (nat_cmp a b) ≡ true → nat_eq b a ≡ false
differs a b less = grind (arith, nat_tests)

same_test : (a b : ℕ) → eq_by_cmp nat_cmp a b ≡ nat_eq b a
same_test a b = grind (arith, nat_tests)

and_nothing : (xs : List Ratio) → xs ++ [] ≡ xs
and_nothing [] = refl
and_nothing (x ∷ xs) = ap (λ l. x ∷ l) (and_nothing xs)

module _ (n : ℕ) where
  abbrev shares_taken : List GroupMember → List Ratio
  shares_taken ms = filter_map (share_in_group n) ms

  -- of the members of a group all shares are taken, or none
  of_group : (g : ℕ) (es : List (ℕ × Ratio)) → shares_taken (listed_in g es) ≡ cond (nat_eq g n) (map_list (λ e. e.1) es) []
  of_group g [] = go (nat_eq g n)
    where
      go : (b : Bool) → shares_taken [] ≡ cond b (map_list (λ (e : ℕ × Ratio). e.1) []) []
      go true = refl
      go false = refl
  of_group g (e ∷ es) = go (nat_eq g n) (of_group g es)
    where
      go : (b : Bool) → shares_taken (listed_in g es) ≡ cond b (map_list (λ e. e.1) es) []
          → cons_option (cond b (Some e.1) None) (shares_taken (listed_in g es)) ≡ cond b (e.1 ∷ map_list (λ e. e.1) es) []
      go true h = ap (λ l. e.1 ∷ l) h
      go false h = h

  none_above : (es : List (ℕ × Members)) → below_all nat_cmp n es ≡ true → shares_taken (flat_map listed es) ≡ []
  none_above [] below = refl
  none_above (e ∷ es) below =
      let parts = and_parts (is_lt (nat_cmp n e.0)) (below_all nat_cmp n es) below in
      let none = of_group e.0 (map.entries e.1) ∙ ap (λ b. cond b (shares_in e.1) []) (differs n e.0 parts.0) in
      filter_map-append (share_in_group n) (listed e) (flat_map listed es) ∙ ap₂ (λ a b. a ++ b) none (none_above es parts.1)

  -- the shares of all groups' members that are in one group are those of that group
  shares_found : (es : List (ℕ × Members)) → is_sorted nat_cmp es ≡ true
      → shares_taken (flat_map listed es) ≡ option_map_or shares_in (find nat_cmp n es) []
  shares_found [] sorted = refl
  shares_found (e ∷ es) sorted =
      filter_map-append (share_in_group n) (listed e) (flat_map listed es)
      ∙ ap (λ l. l ++ shares_taken (flat_map listed es)) (of_group e.0 (map.entries e.1))
      ∙ go (nat_eq e.0 n) refl (shares_found es parts.1)
      ∙ ap (λ b. option_map_or shares_in (cond b (Some e.1) (find nat_cmp n es)) []) (sym (same_test n e.0))
    where
      parts : (below_all nat_cmp e.0 es ≡ true) × (is_sorted nat_cmp es ≡ true)
      parts = and_parts (below_all nat_cmp e.0 es) (is_sorted nat_cmp es) sorted

      go : (b : Bool) → nat_eq e.0 n ≡ b → shares_taken (flat_map listed es) ≡ option_map_or shares_in (find nat_cmp n es) []
          → cond b (shares_in e.1) [] ++ shares_taken (flat_map listed es)
          ≡ option_map_or shares_in (cond b (Some e.1) (find nat_cmp n es)) []
      go true is h =
          let below = ap (λ k. below_all nat_cmp k es) (sym (eqb-true e.0 n is)) ∙ parts.0 in
          ap (λ l. shares_in e.1 ++ l) (none_above es below) ∙ and_nothing (shares_in e.1)
      go false is h = h

-- ---- the values of a group at a moment

module _ (h : History) (n : ℕ) (t : ℤ) where
  -- the current groups and members, and their values in the group
  abbrev groups : List (ℕ × PartyRecord)
  groups = current_values t (groups_among h.parties)

  abbrev members : List GroupMember
  members = current_values t h.members

  abbrev groups_there : List Membership
  groups_there = items_of_unit (λ e. e.0) group_joined n groups

  abbrev members_there : List Membership
  members_there = items_of_unit (λ m. m.group) member_joined n members

  two_parts : values_under_key (memberships_in h) n t ≡ groups_there ++ members_there
  two_parts =
      values_under_key-append (group_live_spans h.parties) (member_live_spans h.members) n t
      ∙ ap₂ (λ a b. a ++ b) (stood (λ e. e.0) group_joined n t (groups_among h.parties)) (stood (λ m. m.group) member_joined n t h.members)

  -- only groups are marked
  marked_there : list_any is_group (values_under_key (memberships_in h) n t) ≡ is_marked is_group_kind n (current_values t h.parties)
  marked_there =
      ap (list_any is_group) two_parts
      ∙ list_any-append is_group groups_there members_there
      ∙ ap (λ b. list_any is_group groups_there || b) (none_marked (λ m. m.group) member_joined n is_group (λ m. refl) members)
      ∙ or_nothing (list_any is_group groups_there)
      ∙ list_any-items_of_unit (λ e. e.0) group_joined n is_group groups
      ∙ groups_stand n t h.parties

  -- only members have shares
  shares_there : member_shares (values_under_key (memberships_in h) n t) ≡ shares_taken n members
  shares_there =
      ap member_shares two_parts
      ∙ filter_map-append member_share groups_there members_there
      ∙ ap (λ a. a ++ member_shares members_there) (none_taken (λ e. e.0) group_joined n member_share (λ e. refl) groups)
      ∙ filter_map-items_of_unit (λ m. m.group) member_joined n member_share members

-- ---- in the register

abbrev is_whole_group : Register → ℕ → Bool
is_whole_group r n = are_group_shares (shares_of r n)

module _ (moments : List Moment) (h : History) (p : AllProper moments h) where
  abbrev register_of : Moment → Register
  register_of m = register_of_history m.stamp h m.next

  abbrev members_at : Moment → List GroupMember
  members_at m = group_members (groups_at m.stamp h.members)

  in_register : (m : Moment) (n : ℕ) → shares_taken n (members_at m) ≡ shares_of (register_of m) n
  in_register m n =
      let groups = groups_at m.stamp h.members in
      shares_found n (map.entries groups) (T_true (is_sorted nat_cmp (map.entries groups)) (map.entries_sorted groups))
      ∙ ap (λ o. option_map_or shares_in o []) (sym (map.get-entries groups n))

  same_shares : (m : Moment) (n : ℕ) → IsPermutation (shares_taken n (current_values m.stamp h.members)) (shares_taken n (members_at m))
  same_shares m n =
      filter_map_permuted (share_in_group n) (current_values m.stamp h.members) (members_at m)
      (made_groups (current_values m.stamp h.members) (distinct_standing is_same_member m.stamp h.members p.members.apart))

  whole_there : (m : Moment) (n : ℕ) → are_members_whole (values_under_key (memberships_in h) n m.stamp) ≡ is_whole_group (register_of m) n
  whole_there m n =
      ap are_group_shares (shares_there h n m.stamp)
      ∙ group_permuted (shares_taken n (current_values m.stamp h.members)) (shares_taken n (members_at m)) (same_shares m n)
      ∙ ap are_group_shares (in_register m n)

  groups_tied : Ties moments h has_broken_group (memberships_in h) is_group are_members_whole h.parties is_group_kind is_whole_group
  groups_tied = record {
    faulty = λ m. some_standing (is_at_fault is_group_kind (is_whole_group (register_of m))) m.stamp h.parties p.parties.apart;
    marked = λ n t. marked_there h n t;
    tested = whole_there;
  }

  memberships_live : AreLives moments (memberships_in h)
  memberships_live =
      let groups = all_live (λ e. e.0) group_joined moments (groups_among h.parties) (groups_begin moments h.parties p.parties.intervals) in
      let members = all_live (λ m. m.group) member_joined moments h.members p.members.intervals in
      lives-append moments (group_live_spans h.parties) (member_live_spans h.members) groups members

-- the current values of groups are sound at each moment if and only if no register has a broken group
pub groups_are_whole : (moments : List Moment) (h : History) → has_intervals moments h ≡ true → are_in_range moments ≡ true
    → AreSound are_members_sound (memberships_in h) ↔ Never has_broken_group moments h
groups_are_whole moments h intervals in_time =
    let p = all_proper moments h intervals in
    never moments h has_broken_group (memberships_in h) is_group are_members_whole h.parties is_group_kind is_whole_group
    (groups_tied moments h p) in_time (memberships_live moments h p)
