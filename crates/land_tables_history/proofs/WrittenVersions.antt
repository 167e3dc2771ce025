-- A write closes the same versions as the change: no current version has the number of a new object.
use Rattle.std.proofs.Common.{◌≡◌, ◌==◌, ℕ, Bool, true, false, cond, not, ◌&&◌, ◌||◌, Option, Some, None, List, [], ◌∷◌, ◌++◌, flat_map, map as map_list, refl, sym, ap, ◌∙◌, arith, IsPermutation}
use Rattle.std.specs.Prelude.{ℤ, ◌<ℤ◌, ◌≤ℤ◌, nat_eq, nat_lt}
use Rattle.std.specs.FinMap as map
use Rattle.std.specs.FinMap.{FinMap}
use Rattle.std.specs.List.{AllByRecursion, list_all, list_any}
use Rattle.std.specs.Option.{option_map_or}
use Rattle.std.specs.Ordering.{eq_by_cmp, int_eq, nat_cmp}
use Rattle.std.proofs.lemmas.Bool.{and_from, and_parts, false≢true, not-false, or_parts}
use Rattle.std.proofs.lemmas.Bool.Decides.{nat_tests}
use Rattle.std.proofs.lemmas.List.Folds.{list_all-append, list_any-append}
use Rattle.std.proofs.lemmas.Map.Views.{any-filter_same}
use Rattle.land_core.proofs.Booleans.{and_false}
use Rattle.land_core.proofs.Reflection.{list_any-map}
use Rattle.land_core.proofs.SoundRegisters.{Refers, are_used, refers, used_from}
use Rattle.land_core.specs.Grants.{grant_cmp, grants_in}
use Rattle.land_core.specs.Mandates.{mandate_cmp, mandates_in}
use Rattle.land_core.specs.Members.{Members, members_in}
use Rattle.land_core.specs.Register.{has_group, has_single_party, is_single}
use Rattle.land_core.specs.Role.{role_index}
use Rattle.land_core.specs.Soundness.{are_dangling_members, has_dangling_member, has_unused, is_dangling_mandate, is_used}
use Rattle.land_core.specs.declared.mandates.Mandate.{Mandate}
use Rattle.land_core.specs.declared.member.Member.{Member}
use Rattle.land_core.specs.declared.party.PartyRecord.{PartyRecord}
use Rattle.land_core.specs.declared.register.Register.{Register}
use Rattle.land_core.specs.declared.roles.Grant.{Grant}
use Rattle.land_core.specs.declared.soundness.Unsound.TheVariants.{Reference}
use Rattle.land_tables_history.proofs.KeptVersions.{open_stands}
use Rattle.land_tables_history.proofs.NamingTests.{all_standing}
use Rattle.land_tables_history.proofs.Permutations.{all_permuted}
use Rattle.land_tables_history.proofs.Proper.{Proper, all_proper}
use Rattle.land_tables_history.specs.Changed.{changed_mandates, changed_members, changed_namings, changed_part, changed_roles, changed_versions, closed_version, is_key_among, is_changed, listed_members, opened_version}
use Rattle.land_tables_history.specs.Groups.{group_members}
use Rattle.land_tables_history.specs.Intervals.{is_interval, is_same_grant, is_same_mandate, is_same_member, is_same_number}
use Rattle.land_tables_history.specs.Laws.{WritesCloseAll}
use Rattle.land_tables_history.specs.Open.{never}
use Rattle.land_tables_history.specs.Pairs.{grants_by_pairs, mandates_by_pairs}
use Rattle.land_tables_history.specs.Standing.{IsPartAt, current_values, is_current}
use Rattle.land_tables_history.specs.Written.{existing_records, written_mandates, written_members, written_part, written_roles}
use Rattle.land_tables_history.specs.declared.group_member.GroupMember.{GroupMember}
use Rattle.land_tables_history.specs.declared.moment.Moment.{Moment}
use Rattle.land_tables_history.specs.declared.version.Version.{Version}

-- ---- the numbers of a sound register are below its next number

-- if no item of a list is bad, each is good
none_bad : {X : Type 0} (bad good : X → Bool) → ((x : X) → bad x ≡ false → good x ≡ true) → (xs : List X) → list_any bad xs ≡ false → list_all good xs ≡ true
none_bad bad good point [] none = refl
none_bad bad good point (x ∷ xs) none =
    let parts = or_parts (bad x) (list_any bad xs) none in
    and_from (good x) (list_all good xs) (point x parts.0) (none_bad bad good point xs parts.1)

module _ (r : Register) where
  abbrev below : ℕ → Bool
  below n = nat_lt n r.next

  used_below : (n : ℕ) → is_used r n ≡ true → below n ≡ true
  used_below n used = (and_parts (nat_lt 0 n) (nat_lt n r.next) used).1

  entries_below : {V : Type 0} (m : FinMap nat_cmp V) → has_unused r m ≡ false → list_all (λ e. below e.0) (map.entries m) ≡ true
  entries_below m none = none_bad (λ e. not (is_used r e.0)) (λ e. below e.0) (λ e bad. used_below e.0 (not-false (is_used r e.0) bad)) (map.entries m) none

  module _ (refs : Refers r) where
    party_below : (n : ℕ) (p : PartyRecord) → map.get r.parties n ≡ Some p → below n ≡ true
    party_below n p is = used_below n (used_from r r.parties (are_used r refs.numbers).parties n p is)

    -- a party that passes a test exists
    passing_below : (test : PartyRecord → Bool) (n : ℕ) → option_map_or test (map.get r.parties n) false ≡ true → below n ≡ true
    passing_below test n passes = found (map.get r.parties n) refl passes
      where
        found : (o : Option PartyRecord) → map.get r.parties n ≡ o → option_map_or test o false ≡ true → below n ≡ true
        found None e h = absurd (false≢true h)
        found (Some p) e h = party_below n p e

    single_below : (n : ℕ) → has_single_party r n ≡ true → below n ≡ true
    single_below n single = passing_below (λ p. is_single p.kind) n single

    group_below : (n : ℕ) → has_group r n ≡ true → below n ≡ true
    group_below n group = passing_below (λ p. not (is_single p.kind)) n group

    grants_below : list_all (λ g. below g.party) (grants_in r.roles) ≡ true
    grants_below =
        none_bad (λ g. not (has_single_party r g.party)) (λ g. below g.party) (λ g bad. single_below g.party (not-false (has_single_party r g.party) bad))
        (grants_in r.roles) refs.grants

    principal_below : (m : Mandate) → is_dangling_mandate r m ≡ false → below m.principal ≡ true
    principal_below m tight =
        let both = and_parts (has_single_party r m.principal && has_single_party r m.agent) (not (nat_eq m.principal m.agent)) (not-false _ tight) in
        single_below m.principal (and_parts (has_single_party r m.principal) (has_single_party r m.agent) both.0).0

    mandates_below : list_all (λ m. below m.principal) (mandates_in r.mandates) ≡ true
    mandates_below = none_bad (λ m. is_dangling_mandate r m) (λ m. below m.principal) principal_below (mandates_in r.mandates) refs.mandates

    one_group_below : (group : ℕ) → below group ≡ true → (members : List Member)
        → list_all (λ (e : GroupMember). below e.group) (map_list (λ m. record { group = group; member = m }) members) ≡ true
    one_group_below group is [] = refl
    one_group_below group is (m ∷ ms) = and_from (below group) _ is (one_group_below group is ms)

    groups_below : (es : List (ℕ × Members)) → list_any (λ e. are_dangling_members r e.0 e.1) es ≡ false
        → list_all (λ (e : GroupMember). below e.group) (flat_map (λ g. map_list (λ m. record { group = g.0; member = m }) (members_in g.1)) es) ≡ true
    groups_below [] none = refl
    groups_below (e ∷ es) none =
        let parts = or_parts (are_dangling_members r e.0 e.1) (list_any (λ e. are_dangling_members r e.0 e.1) es) none in
        let group = or_parts (not (has_group r e.0)) (has_dangling_member r e.1) parts.0 in
        list_all-append (λ (e : GroupMember). below e.group) (map_list (λ m. record { group = e.0; member = m }) (members_in e.1)) _
        ∙ and_from _ _ (one_group_below e.0 (group_below e.0 (not-false (has_group r e.0) group.0)) (members_in e.1)) (groups_below es parts.1)

-- ---- an inserted record with a number that is not below the next number matches no such version

same_below : (n k next : ℕ) → nat_lt n next ≡ true → nat_eq n k ≡ true → nat_lt k next ≡ true
same_below n k next less same = grind (arith, nat_tests)

module _ (next : ℕ) where
  any_existing : {X : Type 0} (test : X → Bool) (number : X → ℕ) → ((x : X) → test x ≡ true → nat_lt (number x) next ≡ true) → (put : List X)
      → list_any test (existing_records number next put) ≡ list_any test put
  any_existing test number passes put = any-filter_same test (λ x. nat_lt (number x) next) true passes put

  number_changed : {V : Type 0} (put : List (ℕ × V)) (ended : List ℕ) (n : ℕ) → nat_lt n next ≡ true
      → is_changed (existing_records (λ x. x.0) next put) ended n ≡ is_changed put ended n
  number_changed put ended n less =
      list_any-append (nat_eq n) (map_list (λ e. e.0) (existing_records (λ x. x.0) next put)) ended
      ∙ ap (λ b. b || list_any (nat_eq n) ended)
      (list_any-map (nat_eq n) (λ e. e.0) (existing_records (λ x. x.0) next put)
      ∙ any_existing (λ e. nat_eq n e.0) (λ e. e.0) (λ e same. same_below n e.0 next less same) put
      ∙ sym (list_any-map (nat_eq n) (λ e. e.0) put))
      ∙ sym (list_any-append (nat_eq n) (map_list (λ e. e.0) put) ended)

  key_changed : {K : Type 0} (same : K → K → Bool) (number : K → ℕ) → ((a b : K) → same a b ≡ true → nat_eq (number a) (number b) ≡ true)
      → (put ended : List K) (key : K) → nat_lt (number key) next ≡ true → is_key_among same (existing_records number next put ++ ended) key ≡ is_key_among same (put ++ ended) key
  key_changed same number agrees put ended key less =
      list_any-append (same key) (existing_records number next put) ended
      ∙ ap (λ b. b || list_any (same key) ended) (any_existing (same key) number (λ k is. same_below (number key) (number k) next less (agrees key k is)) put)
      ∙ sym (list_any-append (same key) put ended)

same_party : (a b : Grant) → is_same_grant a b ≡ true → nat_eq a.party b.party ≡ true
same_party a b same = (and_parts (a.party == b.party) (role_index a.role == role_index b.role) (sym (grants_by_pairs a b) ∙ same)).0

same_principal : (a b : Mandate) → is_same_mandate a b ≡ true → nat_eq a.principal b.principal ≡ true
same_principal a b same = (and_parts (a.principal == b.principal) (a.agent == b.agent) (sym (mandates_by_pairs a b) ∙ same)).0

-- ---- the same versions end

both_alike : (a b c : Bool) → (c ≡ true → a ≡ b) → (a && c) ≡ (b && c)
both_alike a b true h = ap (λ d. d && true) (h refl)
both_alike a b false h = and_false a ∙ sym (and_false b)

passes_from : (a b : Bool) → a ≡ true → (not a || b) ≡ true → b ≡ true
passes_from true b is h = h
passes_from false b is h = absurd (false≢true is)

module _ (moments : List Moment) (last stamp : ℤ) (by : AllByRecursion (λ (m : Moment). m.stamp ≤ℤ last) moments) (early : last <ℤ never) where
  module _ {X : Type 0} (some all : X → Bool) (test : X → Bool) (alike : (x : X) → test x ≡ true → some x ≡ all x) where
    one_closed : (v : Version X) → is_interval moments v ≡ true → (not (is_current last v) || test v.what) ≡ true → closed_version some stamp v ≡ closed_version all stamp v
    one_closed v fits passes =
        ap (λ b. cond b (record v { until = stamp }) v)
        (both_alike (some v.what) (all v.what) (int_eq v.until never)
        (λ no_end. alike v.what (passes_from (is_current last v) (test v.what) (open_stands moments last by v early fits no_end) passes)))

    each_closed : (vs : List (Version X)) → list_all (is_interval moments) vs ≡ true → list_all (λ v. not (is_current last v) || test v.what) vs ≡ true
        → map_list (closed_version some stamp) vs ≡ map_list (closed_version all stamp) vs
    each_closed [] fits passes = refl
    each_closed (v ∷ vs) fits passes =
        let fit = and_parts (is_interval moments v) (list_all (is_interval moments) vs) fits in
        let pass = and_parts (not (is_current last v) || test v.what) (list_all (λ v. not (is_current last v) || test v.what) vs) passes in
        ap (λ w. w ∷ map_list (closed_version some stamp) vs) (one_closed v fit.0 pass.0) ∙ ap (λ ws. closed_version all stamp v ∷ ws) (each_closed vs fit.1 pass.1)

    -- if the current values pass the test
    versions_closed : {same : X → X → Bool} (put : List X) (vs : List (Version X)) (them : List X) → Proper same moments vs → IsPermutation (current_values last vs) them → list_all test them ≡ true
        → changed_versions put some stamp vs ≡ changed_versions put all stamp vs
    versions_closed put vs them proper p passes =
        ap (λ l. map_list (λ x. opened_version x stamp) put ++ l)
        (each_closed vs proper.intervals (all_standing last test vs ∙ sym (all_permuted test (current_values last vs) them p) ∙ passes))

  module _ (next : ℕ) where
    part_closed : {V : Type 0} (put : List (ℕ × V)) (ended : List ℕ) (vs : List (Version (ℕ × V))) (m : FinMap nat_cmp V) → Proper is_same_number moments vs → IsPartAt last vs m
        → list_all (λ e. nat_lt e.0 next) (map.entries m) ≡ true → written_part next put ended stamp vs ≡ changed_part put ended stamp vs
    part_closed put ended vs m proper p passes =
        versions_closed (λ e. is_changed (existing_records (λ x. x.0) next put) ended e.0) (λ e. is_changed put ended e.0) (λ e. nat_lt e.0 next)
        (λ e less. number_changed next put ended e.0 less) put vs (map.entries m) proper p passes

    roles_closed : (put ended : List Grant) (vs : List (Version Grant)) (them : List Grant) → Proper is_same_grant moments vs → IsPermutation (current_values last vs) them
        → list_all (λ g. nat_lt g.party next) them ≡ true → written_roles next put ended stamp vs ≡ changed_roles put ended stamp vs
    roles_closed put ended vs them proper p passes =
        versions_closed (λ grant. is_key_among (eq_by_cmp grant_cmp) (existing_records (λ x. x.party) next put ++ ended) grant) (λ grant. is_key_among (eq_by_cmp grant_cmp) (put ++ ended) grant)
        (λ g. nat_lt g.party next) (λ g less. key_changed next (eq_by_cmp grant_cmp) (λ x. x.party) same_party put ended g less) put vs them proper p passes

    mandates_closed : (put ended : List Mandate) (vs : List (Version Mandate)) (them : List Mandate) → Proper is_same_mandate moments vs → IsPermutation (current_values last vs) them
        → list_all (λ m. nat_lt m.principal next) them ≡ true → written_mandates next put ended stamp vs ≡ changed_mandates put ended stamp vs
    mandates_closed put ended vs them proper p passes =
        versions_closed (λ mandate. is_key_among (eq_by_cmp mandate_cmp) (existing_records (λ x. x.principal) next put ++ ended) mandate)
        (λ mandate. is_key_among (eq_by_cmp mandate_cmp) (put ++ ended) mandate) (λ m. nat_lt m.principal next)
        (λ m less. key_changed next (eq_by_cmp mandate_cmp) (λ x. x.principal) same_principal put ended m less) put vs them proper p passes

    members_closed : (put : List (ℕ × Members)) (ended : List ℕ) (vs : List (Version GroupMember)) (them : List GroupMember) → Proper is_same_member moments vs
        → IsPermutation (current_values last vs) them → list_all (λ e. nat_lt e.group next) them ≡ true → written_members next put ended stamp vs ≡ changed_members put ended stamp vs
    members_closed put ended vs them proper p passes =
        versions_closed (λ e. is_changed (existing_records (λ x. x.0) next put) ended e.group) (λ e. is_changed put ended e.group) (λ e. nat_lt e.group next)
        (λ e less. number_changed next put ended e.group less) (listed_members put) vs them proper p passes

pub closes_all : WritesCloseAll
closes_all moments change last stamp h r intervals by early at sound =
    let proper = all_proper moments h intervals in
    let refs = refers r (sound Reference) in
    let used = are_used r refs.numbers in
    let put = change.put in
    let over = change.ended in
    let parties = part_closed moments last stamp by early r.next put.parties over.parties h.parties r.parties proper.parties at.parties (entries_below r r.parties used.parties) in
    let roles = roles_closed moments last stamp by early r.next put.roles over.roles h.roles (grants_in r.roles) proper.roles at.roles (grants_below r refs) in
    let members = members_closed moments last stamp by early r.next put.members over.members h.members (group_members r.members) proper.members at.members (groups_below r refs (map.entries r.members) refs.members) in
    let units = part_closed moments last stamp by early r.next put.units over.units h.units r.units proper.units at.units (entries_below r r.units used.units) in
    let parcels = part_closed moments last stamp by early r.next put.parcels over.parcels h.parcels r.parcels proper.parcels at.parcels (entries_below r r.parcels used.parcels) in
    let rrrs = part_closed moments last stamp by early r.next put.rrrs over.rrrs h.rrrs r.rrrs proper.rrrs at.rrrs (entries_below r r.rrrs used.rrrs) in
    let sources = part_closed moments last stamp by early r.next put.sources over.sources h.sources r.sources proper.sources at.sources (entries_below r r.sources used.sources) in
    let mutations = part_closed moments last stamp by early r.next put.mutations over.mutations h.mutations r.mutations proper.mutations at.mutations (entries_below r r.mutations used.mutations) in
    let mandates = mandates_closed moments last stamp by early r.next put.mandates over.mandates h.mandates (mandates_in r.mandates) proper.mandates at.mandates (mandates_below r refs) in
    λ i. record {
      parties = parties i;
      roles = roles i;
      members = members i;
      units = units i;
      parcels = parcels i;
      rrrs = rrrs i;
      sources = sources i;
      mutations = mutations i;
      namings = changed_namings r.next put.mutations stamp h.namings;
      mandates = mandates i;
    }
