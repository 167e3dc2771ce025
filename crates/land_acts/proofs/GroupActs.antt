-- The acts `enrol`, `group` and `regroup` keep a register sound.
use Rattle.std.proofs.Common.{◌≡◌, ℕ, true, false, cond, not, Some, [], length, refl, sym, ap, ◌∙◌, subst, arith}
use Rattle.std.specs.Option.{option_map_or}
use Rattle.std.specs.Ordering.{nat_cmp, eq_by_cmp}
use Rattle.std.specs.Cmp.{nat_cmp_total}
use Rattle.std.specs.FinMap as map
use Rattle.std.specs.FinMap.{FinMap}
use Rattle.std.proofs.lemmas.Bool.{false≢true, not-false}
use Rattle.land_acts.proofs.Growth.{has_stays, mutations_stay, ranks_grow}
use Rattle.land_acts.proofs.ListedMembers.{group_shares, listed_single}
use Rattle.land_acts.proofs.Numbers.{one_number}
use Rattle.land_acts.proofs.PartyActs.{single_stays, tight_stays, stay, put_there, each_party, all_used, no_loose_grant, no_loose_rrr}
use Rattle.land_acts.specs.Enrolment.{enrol_change}
use Rattle.land_acts.specs.Grouping.{group_change}
use Rattle.land_acts.specs.Mutations.Planning.{runs_out_of_numbers}
use Rattle.land_acts.specs.Regrouping.{regroup_change}
use Rattle.land_acts.specs.Sharing.{lists_no_single_party, lists_twice, are_whole, members_of_list}
use Rattle.land_core.proofs.FiniteMaps.{is_equal}
use Rattle.land_core.proofs.FiniteSets.{grants_total, exact_grants}
use Rattle.land_core.proofs.LooseMandates.{mandates_stay}
use Rattle.land_core.proofs.SoundRegisters.{AreTight, refers, refers_back, loose_from, single_from, loose_members_from, members_from, unbroken_from, whole_from, administrator_from, administrator_at, apart_itself}
use Rattle.land_core.specs.Changes.{after}
use Rattle.land_core.specs.Grants.{grant_cmp, grant_to}
use Rattle.land_core.specs.Members.{Members, shares_in, is_group_size, are_group_shares}
use Rattle.land_core.specs.Register.{has_single_party, has_group, is_single, shares_of}
use Rattle.land_core.specs.Soundness.{IsSound, has_dangling_members, has_broken_group}
use Rattle.land_core.specs.declared.act.Enrol.{Enrol}
use Rattle.land_core.specs.declared.act.NewGroup.{NewGroup}
use Rattle.land_core.specs.declared.act.Regroup.{Regroup}
use Rattle.land_core.specs.declared.kind.PartyKind.TheVariants.{Group as GroupKind}
use Rattle.land_core.specs.declared.party.PartyRecord.{PartyRecord}
use Rattle.land_core.specs.declared.register.Register.{Register}
use Rattle.land_core.specs.declared.role.Role.TheVariants.{Citizen}
use Rattle.land_core.specs.declared.roles.Grant.{Grant}
use Rattle.land_core.specs.declared.soundness.Unsound.TheVariants.{Reference, Shares, Group, Bare, Crowded, Twice, Rank, Administrator, Reused, Memory}

-- ---- the members at a number

module _ (new : Register) (before : FinMap nat_cmp Members) (number : ℕ) (members : Members) (put : new.members ≡ map.insert before number members) where
  put_at : (n : ℕ) → map.get new.members n ≡ cond (eq_by_cmp nat_cmp n number) (Some members) (map.get before n)
  put_at n = ap (λ m. map.get m n) put ∙ map.get-insert nat_cmp_total before number members n

  pub no_loose_members : AreTight new number members → ((n : ℕ) (others : Members) → map.get before n ≡ Some others → AreTight new n others)
      → has_dangling_members new ≡ false
  no_loose_members here there =
      loose_members_from new (λ n others is.
      elim (eq_by_cmp nat_cmp n number) as (λ b. eq_by_cmp nat_cmp n number ≡ b → cond b (Some members) (map.get before n) ≡ Some others → AreTight new n others) [
        | true ↦ λ at e. subst (AreTight new n) (same_members others e) (subst (λ (k : ℕ). AreTight new k members) (sym (one_number n number at)) here)
        | false ↦ λ apart e. there n others e
      ] refl (sym (put_at n) ∙ is))
    where
      same_members : (others : Members) → Some members ≡ Some others → members ≡ others
      same_members others e = cc

  pub no_broken_group : are_group_shares (shares_in members) ≡ true
      → ((n : ℕ) (p : PartyRecord) → eq_by_cmp nat_cmp n number ≡ false → map.get new.parties n ≡ Some p → is_single p.kind ≡ false → are_group_shares (option_map_or shares_in (map.get before n) []) ≡ true)
      → has_broken_group new ≡ false
  no_broken_group here there =
      unbroken_from new (λ n p is group.
      ap (λ o. are_group_shares (option_map_or shares_in o [])) (put_at n)
      ∙ elim (eq_by_cmp nat_cmp n number) as (λ b. eq_by_cmp nat_cmp n number ≡ b → are_group_shares (option_map_or shares_in (cond b (Some members) (map.get before n)) []) ≡ true) [
        | true ↦ λ at. here
        | false ↦ λ apart. there n p apart is group
      ] refl)

-- ---- enrolling

pub enrolled_is_sound : (r : Register) (it : Enrol) → IsSound r → is_single it.kind ≡ true → runs_out_of_numbers r 1 ≡ false → IsSound (after (enrol_change r it) r)
enrolled_is_sound r it sound single room Memory = refl
enrolled_is_sound r it sound single room Reused = sound Reused
enrolled_is_sound r it sound single room Shares = sound Shares
enrolled_is_sound r it sound single room Bare = sound Bare
enrolled_is_sound r it sound single room Crowded = sound Crowded
enrolled_is_sound r it sound single room Twice = sound Twice
enrolled_is_sound r it sound single room Rank = ranks_grow r (after (enrol_change r it) r) (omega arith) r.rrrs (sound Rank)
enrolled_is_sound r it sound single room Group =
    let new = after (enrol_change r it) r in
    let party : PartyRecord = record { kind = it.kind; name = it.name } in
    unbroken_from new
    (each_party r new party refl refl sound (λ n p. is_single p.kind ≡ false → are_group_shares (shares_of r n) ≡ true)
    (λ group. absurd (false≢true (sym group ∙ single)))
    (λ n p apart is group. whole_from r (sound Group) n p is group))
enrolled_is_sound r it sound single room Reference =
    let before = refers r (sound Reference) in
    let new = after (enrol_change r it) r in
    let party : PartyRecord = record { kind = it.kind; name = it.name } in
    let stays = stay r new party refl refl sound in
    refers_back new (record {
      room = room;
      numbers = all_used r new party refl refl sound refl refl refl refl refl;
      grants = loose_from new (λ g is.
          elim (eq_by_cmp grant_cmp g (grant_to r.next Citizen)) as (λ b. eq_by_cmp grant_cmp g (grant_to r.next Citizen) ≡ b → cond b (Some tt) (map.get r.roles g) ≡ Some tt → has_single_party new g.party ≡ true) [
            | true ↦ λ at e.
                subst (λ (x : Grant). has_single_party new x.party ≡ true) (sym (exact_grants g (grant_to r.next Citizen) (is_equal _ at)))
                (ap (λ o. option_map_or (λ (p : PartyRecord). is_single p.kind) o false) (put_there r new party refl refl sound) ∙ single)
            | false ↦ λ apart e. single_stays r new stays g.party (single_from r before.grants g e)
          ] refl (sym (map.get-insert grants_total r.roles (grant_to r.next Citizen) tt g) ∙ is));
      members = loose_members_from new (λ n others is. tight_stays r new stays n others (members_from r before.members n others is));
      parcels = before.parcels;
      rrrs = no_loose_rrr r new party refl refl sound refl refl refl;
      mutations = mutations_stay r new refl (has_stays r.parties new.parties stays) (λ n h. h) before.mutations;
      mandates = mandates_stay r new (single_stays r new stays) refl before.mandates;
    })
enrolled_is_sound r it sound single room Administrator =
    let new = after (enrol_change r it) r in
    let one = administrator_from r (not-false _ (sound Administrator)) in
    ap not (administrator_at new one.key
    (map.get-insert grants_total r.roles (grant_to r.next Citizen) tt one.key
    ∙ elim (eq_by_cmp grant_cmp one.key (grant_to r.next Citizen)) as (λ b. cond b (Some tt) (map.get r.roles one.key) ≡ Some tt) [ true ↦ refl | false ↦ one.there ])
    one.passes)

-- ---- grouping

pub grouped_is_sound : (r : Register) (it : NewGroup) → IsSound r → is_group_size (length it.members) ≡ true → lists_no_single_party r it.members ≡ false → runs_out_of_numbers r 1 ≡ false
    → are_whole it.members ≡ true → lists_twice it.members ≡ false → IsSound (after (group_change r it) r)
grouped_is_sound r it sound size known room whole once Memory = refl
grouped_is_sound r it sound size known room whole once Reused = sound Reused
grouped_is_sound r it sound size known room whole once Shares = sound Shares
grouped_is_sound r it sound size known room whole once Bare = sound Bare
grouped_is_sound r it sound size known room whole once Crowded = sound Crowded
grouped_is_sound r it sound size known room whole once Twice = sound Twice
grouped_is_sound r it sound size known room whole once Rank = ranks_grow r (after (group_change r it) r) (omega arith) r.rrrs (sound Rank)
grouped_is_sound r it sound size known room whole once Administrator = sound Administrator
grouped_is_sound r it sound size known room whole once Group =
    let new = after (group_change r it) r in
    let party : PartyRecord = record { kind = GroupKind; name = it.name } in
    no_broken_group new r.members r.next (members_of_list it.members) refl (group_shares it.members once size whole)
    (λ n p apart is group.
    each_party r new party refl refl sound (λ n p. eq_by_cmp nat_cmp n r.next ≡ false → is_single p.kind ≡ false → are_group_shares (shares_of r n) ≡ true)
    (λ apart group. absurd (apart_itself r.next apart))
    (λ n p other is apart group. whole_from r (sound Group) n p is group) n p is apart group)
grouped_is_sound r it sound size known room whole once Reference =
    let before = refers r (sound Reference) in
    let new = after (group_change r it) r in
    let party : PartyRecord = record { kind = GroupKind; name = it.name } in
    let stays = stay r new party refl refl sound in
    refers_back new (record {
      room = room;
      numbers = all_used r new party refl refl sound refl refl refl refl refl;
      grants = no_loose_grant r new party refl refl sound refl;
      members = no_loose_members new r.members r.next (members_of_list it.members) refl
          (record {
            grouped = ap (λ o. option_map_or (λ (p : PartyRecord). not (is_single p.kind)) o false) (put_there r new party refl refl sound);
            single = λ n share is. single_stays r new stays n (listed_single r it.members known n share is);
          })
          (λ n others is. tight_stays r new stays n others (members_from r before.members n others is));
      parcels = before.parcels;
      rrrs = no_loose_rrr r new party refl refl sound refl refl refl;
      mutations = mutations_stay r new refl (has_stays r.parties new.parties stays) (λ n h. h) before.mutations;
      mandates = mandates_stay r new (single_stays r new stays) refl before.mandates;
    })

-- ---- regrouping

pub regrouped_is_sound : (r : Register) (it : Regroup) → IsSound r → is_group_size (length it.members) ≡ true → has_group r it.group ≡ true → lists_no_single_party r it.members ≡ false
    → are_whole it.members ≡ true → lists_twice it.members ≡ false → IsSound (after (regroup_change r it) r)
regrouped_is_sound r it sound size group known whole once Memory = refl
regrouped_is_sound r it sound size group known whole once Reused = sound Reused
regrouped_is_sound r it sound size group known whole once Shares = sound Shares
regrouped_is_sound r it sound size group known whole once Bare = sound Bare
regrouped_is_sound r it sound size group known whole once Crowded = sound Crowded
regrouped_is_sound r it sound size group known whole once Twice = sound Twice
regrouped_is_sound r it sound size group known whole once Rank = sound Rank
regrouped_is_sound r it sound size group known whole once Administrator = sound Administrator
regrouped_is_sound r it sound size group known whole once Group =
    let new = after (regroup_change r it) r in
    no_broken_group new r.members it.group (members_of_list it.members) refl (group_shares it.members once size whole)
    (λ n p apart is group. whole_from r (sound Group) n p is group)
regrouped_is_sound r it sound size group known whole once Reference =
    let before = refers r (sound Reference) in
    let new = after (regroup_change r it) r in
    refers_back new (record {
      room = before.room;
      numbers = before.numbers;
      grants = before.grants;
      members = no_loose_members new r.members it.group (members_of_list it.members) refl
          (record { grouped = group; single = λ n share is. listed_single r it.members known n share is })
          (λ n others is. tight_stays r new (λ n p at. at) n others (members_from r before.members n others is));
      parcels = before.parcels;
      rrrs = before.rrrs;
      mutations = before.mutations;
      mandates = before.mandates;
    })
