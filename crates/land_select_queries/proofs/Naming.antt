-- The current rows of members and references are those of the register's groups and mutations.
use Rattle.std.proofs.Common.{◌≡◌, ℕ, ℤ, Bool, true, false, ◌||◌, map as map_list, Option, Some, None, is_some, refl, sym, ap, subst, ◌∙◌}
use Rattle.std.proofs.lemmas.Bool.{false≢true}
use Rattle.std.proofs.lemmas.Bool.Decides.{Decides-at, Decides-like}
use Rattle.std.proofs.lemmas.List.Sorted.{Contains-permutation, IsPermutation-sym}
use Rattle.std.specs.Bool.{Decides}
use Rattle.std.specs.FinMap as map
use Rattle.std.specs.List.{Contains, list_any}
use Rattle.std.specs.Option.{option_map_or}
use Rattle.land_core.specs.Contents.{refers_to_unit_where}
use Rattle.land_core.specs.Entries.{has}
use Rattle.land_core.specs.Members.{Members, member_with_share, members_in}
use Rattle.land_core.specs.Register.{is_member}
use Rattle.land_core.specs.declared.content.Content.{Content}
use Rattle.land_core.specs.declared.content.Content.TheVariants as content
use Rattle.land_core.specs.declared.member.Member.{Member}
use Rattle.land_core.specs.declared.mutation.MutationRecord.{MutationRecord}
use Rattle.land_core.specs.declared.register.Register.{Register}
use Rattle.land_fraction.specs.Ratio.{Ratio}
use Rattle.land_select_queries.proofs.Containing.{any_decides, from_flat_map, from_map, to_flat_map, to_map}
use Rattle.land_select_queries.proofs.Standing.{entry_found, entry_there, listed, one_stands, unlisted}
use Rattle.land_select_queries.specs.Sights.Selections.{IsCurrent}
use Rattle.land_tables_history.specs.Groups.{group_members}
use Rattle.land_tables_history.specs.History.{IsRegisterAt, named_units, namings_of}
use Rattle.land_tables_history.specs.Standing.{current_values}
use Rattle.land_tables_history.specs.declared.group_member.GroupMember.{GroupMember}
use Rattle.land_tables_history.specs.declared.history.History.{History}
use Rattle.land_tables_history.specs.declared.naming.Naming.{Naming}

-- a current member of a group
abbrev pub Joins : (t : ℤ) → History → (group party : ℕ) → Type 0
Joins t h group party = (joined : GroupMember) × IsCurrent t h.members joined × (joined.group ≡ group) × (joined.member.party ≡ party)

-- a mutation refers to a unit that passes a test
abbrev pub Names : (t : ℤ) → History → ℕ × MutationRecord → (ℕ → Type 0) → Type 0
Names t h e P = (n : Naming) × (IsCurrent t h.namings n × (n.mutation ≡ e.0)) × P n.unit

abbrev in_group : ℕ → ℕ × Ratio → GroupMember
in_group group e = record { group = group; member = member_with_share e.0 e.1 }

abbrev naming_of : ℕ → ℕ → Naming
naming_of mutation unit = record { mutation = mutation; unit = unit }

alone : (b : Bool) → b ≡ (b || false)
alone true = refl
alone false = refl

-- a test of the units to which a content refers
any_named : (passes : ℕ → Bool) (c : Content) → refers_to_unit_where passes c ≡ list_any passes (named_units c)
any_named passes (content.Transfer it) = alone (passes it.unit)
any_named passes (content.Subdivision it) = alone (passes it.unit)
any_named passes (content.Merger it) = refl
any_named passes (content.Mortgage it) = alone (passes it.unit)
any_named passes (content.Discharge it) = alone (passes it.unit)

module _ (r : Register) (t : ℤ) (h : History) (is : IsRegisterAt t h r) where
  -- the member of a group in the register
  joined_from : (group party : ℕ) → is_member r group party ≡ true → Joins t h group party
  joined_from group party has_it = found (map.get r.members group) refl has_it
    where
      inside : (members : Members) → map.get r.members group ≡ Some members → (o : Option Ratio) → map.get members party ≡ o → is_some o ≡ true → Joins t h group party
      inside members at None got has_it = absurd (false≢true has_it)
      inside members at (Some share) got has_it =
          let one : GroupMember = in_group group (party, share) in
          let among : Contains (members_in members) (member_with_share party share) = to_map (λ e. member_with_share e.0 e.1) (map.entries members) (party, share) (entry_found members party share got) in
          let all : Contains (group_members r.members) one =
          to_flat_map (λ g. map_list (λ m. record { group = g.0; member = m }) (members_in g.1)) (map.entries r.members) (group, members) one (entry_found r.members group members at)
          (to_map (λ m. record { group = group; member = m }) (members_in members) (member_with_share party share) among) in
          (one, Contains-permutation (group_members r.members) (current_values t h.members) one (IsPermutation-sym (current_values t h.members) (group_members r.members) is.members) all, refl, refl)

      found : (o : Option Members) → map.get r.members group ≡ o → option_map_or (λ members. has members party) o false ≡ true → Joins t h group party
      found None at has_it = absurd (false≢true has_it)
      found (Some members) at has_it = inside members at (map.get members party) refl has_it

  -- and the converse
  is_shown : (group : ℕ) (members : Members) → map.get r.members group ≡ Some members → (shown : Member) → Contains (members_in members) shown → is_member r group shown.party ≡ true
  is_shown group members at shown among =
      let entry = from_map (λ e. member_with_share e.0 e.1) (map.entries members) shown among in
      subst (λ (m : Member). is_member r group m.party ≡ true) entry.2
      (ap (λ o. option_map_or (λ members. has members entry.0.0) o false) at ∙ ap is_some (entry_there members entry.0 entry.1))

  is_joined : (joined : GroupMember) → IsCurrent t h.members joined → is_member r joined.group joined.member.party ≡ true
  is_joined joined stands =
      let all = Contains-permutation (current_values t h.members) (group_members r.members) joined is.members stands in
      let of_group = from_flat_map (λ g. map_list (λ m. record { group = g.0; member = m }) (members_in g.1)) (map.entries r.members) joined all in
      let g = of_group.0 in
      let shown = from_map (λ m. record { group = g.0; member = m }) (members_in g.1) joined of_group.2 in
      subst (λ (j : GroupMember). is_member r j.group j.member.party ≡ true) shown.2 (is_shown g.0 g.1 (entry_there r.members g of_group.1) shown.0 shown.1)

  pub member_decides : (group party : ℕ) → Decides (is_member r group party) (Joins t h group party)
  member_decides group party = (
    joined_from group party,
    (λ j. subst (λ n. is_member r group n ≡ true) j.3 (subst (λ g. is_member r g j.0.member.party ≡ true) j.2 (is_joined j.0 j.1))),
  )

  -- a current mutation, and the reference to one of its units
  pub naming_stands : (e : ℕ × MutationRecord) → IsCurrent t h.mutations e → (unit : ℕ) → Contains (named_units e.1.content) unit → IsCurrent t h.namings (naming_of e.0 unit)
  naming_stands e stands unit named =
      let all : Contains (namings_of r.mutations) (naming_of e.0 unit) =
      to_flat_map (λ m. map_list (λ unit. record { mutation = m.0; unit = unit }) (named_units m.1.content)) (map.entries r.mutations) e (naming_of e.0 unit)
      (listed t h.mutations r.mutations is.mutations e stands) (to_map (naming_of e.0) (named_units e.1.content) unit named) in
      Contains-permutation (namings_of r.mutations) (current_values t h.namings) (naming_of e.0 unit) (IsPermutation-sym (current_values t h.namings) (namings_of r.mutations) is.namings) all

  -- a current reference has a current mutation
  pub named_by : (n : Naming) → IsCurrent t h.namings n → (e : ℕ × MutationRecord) × IsCurrent t h.mutations e × (n.mutation ≡ e.0) × Contains (named_units e.1.content) n.unit
  named_by n stands =
      let all = Contains-permutation (current_values t h.namings) (namings_of r.mutations) n is.namings stands in
      let of_mutation = from_flat_map (λ m. map_list (λ unit. record { mutation = m.0; unit = unit }) (named_units m.1.content)) (map.entries r.mutations) n all in
      let e = of_mutation.0 in
      let it = from_map (naming_of e.0) (named_units e.1.content) n of_mutation.2 in
      let whole : naming_of e.0 it.0 ≡ n = it.2 in
      (e, unlisted t h.mutations r.mutations is.mutations e of_mutation.1, ap (λ (k : Naming). k.mutation) (sym whole), subst (λ (k : Naming). Contains (named_units e.1.content) k.unit) whole it.1)

  pub names_decides : (passes : ℕ → Bool) (P : ℕ → Type 0) → ((unit : ℕ) → Decides (passes unit) (P unit)) → (e : ℕ × MutationRecord) → IsCurrent t h.mutations e
      → Decides (refers_to_unit_where passes e.1.content) (Names t h e P)
  names_decides passes P each e stands =
      Decides-at (refers_to_unit_where passes e.1.content) (list_any passes (named_units e.1.content)) (any_named passes e.1.content)
      (Decides-like (list_any passes (named_units e.1.content))
      (λ it. (naming_of e.0 it.0, (naming_stands e stands it.0 it.1, refl), it.2))
      (λ it.
      let by = named_by it.0 it.1.0 in
      let same : by.0.1 ≡ e.1 = one_stands t h.mutations r.mutations is.mutations by.0 e by.1 stands (sym by.2 ∙ it.1.1) in
      (it.0.unit, subst (λ (m : MutationRecord). Contains (named_units m.content) it.0.unit) same by.3, it.2))
      (any_decides passes P (named_units e.1.content) (λ unit among. each unit)))
