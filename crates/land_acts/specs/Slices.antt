-- The slice of a register for an act: only the records that planning the act may read.
use Rattle.std.specs.Prelude.{ℕ, ◌≡◌, Bool, true, false, ◌&&◌, ◌||◌, nat_eq}
use Rattle.std.specs.FinMap as map
use Rattle.std.specs.FinMap.{FinMap}
use Rattle.std.specs.Option.{option_map_or}
use Rattle.std.specs.Ordering.{nat_cmp}
use Rattle.land_acts.specs.FirstRights.{rights_list_party}
use Rattle.land_acts.specs.Mandating.{mandate_of_caller}
use Rattle.land_acts.specs.Sharing.{lists_party}
use Rattle.land_acts.specs.declared.slice_parts.SliceParts.{SliceParts}
use Rattle.land_core.specs.Contents.{content_names_unit}
use Rattle.land_core.specs.Entries.{entries_where, some}
use Rattle.land_core.specs.Mutations.{is_lodged_as}
use Rattle.land_core.specs.Register.{holds, is_mutation_where}
use Rattle.land_core.specs.Role.{is_role}
use Rattle.land_core.specs.Soundness.{IsSound}
use Rattle.land_core.specs.declared.act.Act.{Act}
use Rattle.land_core.specs.declared.act.Act.TheVariants as act
use Rattle.land_core.specs.declared.caller.Caller.{Caller}
use Rattle.land_core.specs.declared.content.Content.{Content}
use Rattle.land_core.specs.declared.content.Content.TheVariants as content
use Rattle.land_core.specs.declared.mandates.Mandate.{Mandate}
use Rattle.land_core.specs.declared.mutation.MutationRecord.{MutationRecord}
use Rattle.land_core.specs.declared.register.Register.{Register}
use Rattle.land_core.specs.declared.role.Role.TheVariants.{StateAdministrator}
use Rattle.land_core.specs.declared.rrr.RrrRecord.{RrrRecord}

-- whether a content refers to a party: the receiver of a transfer, or the creditor of a mortgage
abbrev pub content_names_party : (party : ℕ) → Content → Bool
content_names_party n (content.Transfer it) = nat_eq n it.receiver
content_names_party n (content.Subdivision it) = false
content_names_party n (content.Merger it) = false
content_names_party n (content.Mortgage it) = nat_eq n it.creditor
content_names_party n (content.Discharge it) = false

-- whether an act refers to a party, directly or through the mutation that it decides
abbrev pub names_party : Register → Act → ℕ → Bool
names_party r (act.Enrol it) n = false
names_party r (act.Group it) n = lists_party it.members n
names_party r (act.Regroup it) n = nat_eq n it.group || lists_party it.members n
names_party r (act.Grant it) n = nat_eq n it.party
names_party r (act.Revoke it) n = nat_eq n it.party
names_party r (act.Mandate it) n = nat_eq n it.agent
names_party r (act.Withdraw it) n = nat_eq n it.principal || nat_eq n it.agent
names_party r (act.Register it) n = rights_list_party it.rights n
names_party r (act.Burden it) n = nat_eq n it.party
names_party r (act.Lift it) n = false
names_party r (act.Lodge it) n = content_names_party n it.content
names_party r (act.Approve it) n = is_mutation_where (λ m. content_names_party n m.content) r it.mutation
names_party r (act.Refuse it) n = is_mutation_where (λ m. content_names_party n m.content) r it.mutation

-- whether an act refers to a unit, directly or through the mutation that it decides
abbrev pub names_unit : Register → Act → ℕ → Bool
names_unit r (act.Enrol it) n = false
names_unit r (act.Group it) n = false
names_unit r (act.Regroup it) n = false
names_unit r (act.Grant it) n = false
names_unit r (act.Revoke it) n = false
names_unit r (act.Mandate it) n = false
names_unit r (act.Withdraw it) n = false
names_unit r (act.Register it) n = false
names_unit r (act.Burden it) n = nat_eq n it.unit
names_unit r (act.Lift it) n = false
names_unit r (act.Lodge it) n = content_names_unit n it.content
names_unit r (act.Approve it) n = is_mutation_where (λ m. content_names_unit n m.content) r it.mutation
names_unit r (act.Refuse it) n = is_mutation_where (λ m. content_names_unit n m.content) r it.mutation

-- whether an act refers to an entry
abbrev pub names_rrr : Register → Act → ℕ → Bool
names_rrr r (act.Enrol it) n = false
names_rrr r (act.Group it) n = false
names_rrr r (act.Regroup it) n = false
names_rrr r (act.Grant it) n = false
names_rrr r (act.Revoke it) n = false
names_rrr r (act.Mandate it) n = false
names_rrr r (act.Withdraw it) n = false
names_rrr r (act.Register it) n = false
names_rrr r (act.Burden it) n = false
names_rrr r (act.Lift it) n = nat_eq n it.rrr
names_rrr r (act.Lodge it) n = false
names_rrr r (act.Approve it) n = false
names_rrr r (act.Refuse it) n = false

-- whether planning an act reads a mutation: the act decides it, or its caller lodged it under the same
-- reference
abbrev pub reads_mutation : Caller → Act → ℕ → MutationRecord → Bool
reads_mutation caller (act.Enrol it) n m = false
reads_mutation caller (act.Group it) n m = false
reads_mutation caller (act.Regroup it) n m = false
reads_mutation caller (act.Grant it) n m = false
reads_mutation caller (act.Revoke it) n m = false
reads_mutation caller (act.Mandate it) n m = false
reads_mutation caller (act.Withdraw it) n m = false
reads_mutation caller (act.Register it) n m = false
reads_mutation caller (act.Burden it) n m = false
reads_mutation caller (act.Lift it) n m = false
reads_mutation caller (act.Lodge it) n m = is_lodged_as caller.party it.reference m
reads_mutation caller (act.Approve it) n m = nat_eq n it.mutation
reads_mutation caller (act.Refuse it) n m = nat_eq n it.mutation

-- whether two mandates have the same principal and the same agent
abbrev pub is_same_mandate : (it m : Mandate) → Bool
is_same_mandate it m = nat_eq m.principal it.principal && nat_eq m.agent it.agent

-- whether an act gives or withdraws a mandate
abbrev pub names_mandate : Caller → Act → Mandate → Bool
names_mandate caller (act.Enrol it) m = false
names_mandate caller (act.Group it) m = false
names_mandate caller (act.Regroup it) m = false
names_mandate caller (act.Grant it) m = false
names_mandate caller (act.Revoke it) m = false
names_mandate caller (act.Mandate it) m = is_same_mandate (mandate_of_caller caller it) m
names_mandate caller (act.Withdraw it) m = is_same_mandate it m
names_mandate caller (act.Register it) m = false
names_mandate caller (act.Burden it) m = false
names_mandate caller (act.Lift it) m = false
names_mandate caller (act.Lodge it) m = false
names_mandate caller (act.Approve it) m = false
names_mandate caller (act.Refuse it) m = false

-- the mutations in the slice
abbrev pub mutations_in_slice : Register → Caller → Act → FinMap nat_cmp MutationRecord
mutations_in_slice r caller a = entries_where (λ n m. reads_mutation caller a n m) r.mutations

-- planning reads the sources of these mutations
abbrev pub reads_source : Register → Caller → Act → ℕ → Bool
reads_source r caller a n = some (λ k m. nat_eq m.source n) (mutations_in_slice r caller a)

-- planning reads the parties to which the act refers, and all state administrators
abbrev pub reads_party : Register → Act → ℕ → Bool
reads_party r a n = names_party r a n || holds r n StateAdministrator

-- planning reads the entries of the units to which the act refers, and the entry of a lift
abbrev pub reads_rrr : Register → Act → ℕ → RrrRecord → Bool
reads_rrr r a n e = names_unit r a e.unit || names_rrr r a n

-- the register with only these records: each party with all its roles, each group with all its members, each
-- unit with all its parcels and entries
abbrev pub slice_of : Register → Caller → Act → Register
slice_of r caller a = record {
  parties = entries_where (λ n p. reads_party r a n) r.parties;
  roles = entries_where (λ grant u. reads_party r a grant.party) r.roles;
  members = entries_where (λ n members. reads_party r a n) r.members;
  units = entries_where (λ n u. names_unit r a n) r.units;
  parcels = entries_where (λ n p. names_unit r a p.unit) r.parcels;
  rrrs = entries_where (λ n e. reads_rrr r a n e) r.rrrs;
  sources = entries_where (λ n s. reads_source r caller a n) r.sources;
  mutations = mutations_in_slice r caller a;
  mandates = entries_where (λ m u. names_mandate caller a m) r.mandates;
  next = r.next;
}

-- ---- parts of a slice

-- no part, and all parts
abbrev pub no_parts : SliceParts
no_parts = record {
  parties = false;
  administrators = false;
  roles = false;
  members = false;
  units = false;
  parcels = false;
  sources = false;
}

abbrev pub all_parts : SliceParts
all_parts = record {
  parties = true;
  administrators = true;
  roles = true;
  members = true;
  units = true;
  parcels = true;
  sources = true;
}

-- whether some parts of a slice include a party, a unit and an entry
abbrev pub includes_party : SliceParts → Register → Act → ℕ → Bool
includes_party parts r a n =
    parts.parties && names_party r a n || parts.administrators && holds r n StateAdministrator

abbrev pub includes_unit : SliceParts → Register → Act → ℕ → Bool
includes_unit parts r a n = parts.units && names_unit r a n

abbrev pub includes_rrr : SliceParts → Register → Act → ℕ → RrrRecord → Bool
includes_rrr parts r a n e = includes_unit parts r a e.unit || names_rrr r a n

-- these parts of the slice: each party with its roles and members, each unit with its entries and parcels, if
-- they are included
abbrev pub slice_with : SliceParts → Register → Caller → Act → Register
slice_with parts r caller a = record {
  parties = entries_where (λ n p. includes_party parts r a n) r.parties;
  roles = entries_where (λ grant u. parts.roles && includes_party parts r a grant.party) r.roles;
  members = entries_where (λ n members. parts.members && includes_party parts r a n) r.members;
  units = entries_where (λ n u. includes_unit parts r a n) r.units;
  parcels = entries_where (λ n p. parts.parcels && includes_unit parts r a p.unit) r.parcels;
  rrrs = entries_where (λ n e. includes_rrr parts r a n e) r.rrrs;
  sources = entries_where (λ n s. parts.sources && reads_source r caller a n) r.sources;
  mutations = mutations_in_slice r caller a;
  mandates = entries_where (λ m u. names_mandate caller a m) r.mandates;
  next = r.next;
}

-- the parts on which the outcome of a decision depends, by the content of its mutation
abbrev pub parts_of_content : Content → SliceParts
parts_of_content (content.Transfer it) = record no_parts { parties = true; units = true }
parts_of_content (content.Subdivision it) = record no_parts { units = true; parcels = true }
parts_of_content (content.Merger it) = record no_parts { units = true; parcels = true }
parts_of_content (content.Mortgage it) = record no_parts { parties = true; roles = true; units = true }
parts_of_content (content.Discharge it) = record no_parts { units = true }

-- the parts on which the outcome of an act depends, by the mutations in its slice. Another state
-- administrator matters only if the act ends that role
abbrev pub needed_parts : FinMap nat_cmp MutationRecord → Act → SliceParts
needed_parts mutations (act.Enrol it) = no_parts
needed_parts mutations (act.Group it) = record no_parts { parties = true }
needed_parts mutations (act.Regroup it) = record no_parts { parties = true }
needed_parts mutations (act.Grant it) = record no_parts { parties = true; roles = true }
needed_parts mutations (act.Revoke it) =
    record no_parts { parties = true; administrators = is_role it.role StateAdministrator; roles = true }
needed_parts mutations (act.Mandate it) = record no_parts { parties = true }
needed_parts mutations (act.Withdraw it) = no_parts
needed_parts mutations (act.Register it) = record no_parts { parties = true }
needed_parts mutations (act.Burden it) = record no_parts { parties = true; units = true }
needed_parts mutations (act.Lift it) = no_parts
needed_parts mutations (act.Lodge it) = record no_parts { sources = true }
needed_parts mutations (act.Approve it) =
    option_map_or (λ m. parts_of_content m.content) (map.get mutations it.mutation) no_parts
needed_parts mutations (act.Refuse it) = no_parts

-- the part of the slice on which the outcome of an act depends
abbrev pub needed_slice_of : Register → Caller → Act → Register
needed_slice_of r caller a = slice_with (needed_parts (mutations_in_slice r caller a) a) r caller a

-- the register consists of parts of the slice of a sound register for an act
pub record IsSliceOfSound (slice : Register) (caller : Caller) (a : Act) : Type 0 where
  pub register : Register
  pub parts : SliceParts
  pub sound : IsSound register
  pub is : slice ≡ slice_with parts register caller a
