-- A decision has the same outcome on a register and on its slice.
use Rattle.std.proofs.Common.{◌≡◌, ℕ, Bool, true, false, not, ◌&&◌, cond, Option, Some, None, [], ◌∷◌, refl, sym, ap, ◌∙◌, subst}
use Rattle.std.specs.Prelude.{ℤ, Result, is_none}
use Rattle.std.specs.Option.{option_map_or}
use Rattle.std.proofs.lemmas.Bool.{or_left}
use Rattle.std.specs.Cmp.{nat_cmp_total}
use Rattle.std.specs.FinMap as map
use Rattle.std.specs.FinMap.{nat_cmp-IsAntisymmetric}
use Rattle.std.proofs.lemmas.Cmp.{nat_eq_equiv}
use Rattle.land_acts.proofs.DischargeSlices.{discharge_change_agrees, discharge_refusal_agrees}
use Rattle.land_acts.proofs.MergerSlices.{merger_change_agrees, merger_refusal_agrees, named_in_content}
use Rattle.land_acts.proofs.MortgageSlices.{AgreeOnUnit, mortgage_change_agrees, mortgage_refusals_agree}
use Rattle.land_acts.proofs.Numbers.{one_number, tied_number}
use Rattle.land_acts.proofs.SlicedWords.{holds_same, stands_same, unit_included, unit_same}
use Rattle.land_acts.proofs.SubdivisionSlices.{AgreeOnUnits, subdivision_change_agrees, subdivision_made_agrees, subdivision_refusal_agrees}
use Rattle.land_acts.proofs.TransferSlices.{transfer_agrees}
use Rattle.land_acts.specs.Deciding.{with_state}
use Rattle.land_acts.specs.Mutations.ByContent.{content_change, content_made, content_refusals}
use Rattle.land_acts.specs.Mutations.Merging.{is_unit_of_merger}
use Rattle.land_acts.specs.Mutations.Planning.{done_on, first_refusal_of}
use Rattle.land_acts.specs.Outcome.{outcome_of, refusal_or, plan_with_stamp}
use Rattle.land_acts.specs.Slices.{content_names_party, includes_rrr, includes_unit, mutations_in_slice, names_party, names_rrr, names_unit, needed_parts, no_parts, parts_of_content, reads_mutation, slice_with}
use Rattle.land_acts.specs.declared.slice_parts.SliceParts.{SliceParts}
use Rattle.land_acts.specs.declared.mutations.refusal.Planned.{Planned}
use Rattle.land_acts.specs.declared.mutations.refusal.Refusal.{Refusal}
use Rattle.land_acts.specs.declared.mutations.refusal.Refusal.TheVariants.{ClockOut, NotLodged}
use Rattle.land_core.proofs.Reflection.{get-entries_where}
use Rattle.land_core.specs.Changes.{no_change}
use Rattle.land_core.specs.Contents.{content_names_unit}
use Rattle.land_core.specs.Mutations.{is_undecided}
use Rattle.land_core.specs.declared.act.Act.{Act}
use Rattle.land_core.specs.declared.act.Act.TheVariants as act
use Rattle.land_core.specs.declared.act.Decision.{Decision}
use Rattle.land_core.specs.declared.caller.Caller.{Caller}
use Rattle.land_core.specs.declared.content.Content.{Content}
use Rattle.land_core.specs.declared.content.Content.TheVariants as content
use Rattle.land_core.specs.declared.mutation.MutationRecord.{MutationRecord}
use Rattle.land_core.specs.declared.mutation.MutationState.TheVariants.{Approved, Refused}
use Rattle.land_core.specs.declared.register.Register.{Register}
use Rattle.land_core.specs.declared.role.Role.TheVariants.{Bank}

-- the mutation that is decided is in the slice
mutation_same : (r : Register) (caller : Caller) (a : Act) (n : ℕ) → ((m : MutationRecord) → reads_mutation caller a n m ≡ true) → map.get (mutations_in_slice r caller a) n ≡ map.get r.mutations n
mutation_same r caller a n looks = get-entries_where nat_cmp_total nat_cmp-IsAntisymmetric (λ n m. reads_mutation caller a n m) r.mutations n looks

-- ---- the content, if the mutation exists

-- each part that is needed is included
pub record Includes (needed parts : SliceParts) : Type 0 where
  pub parties : needed.parties ≡ true → parts.parties ≡ true
  pub administrators : needed.administrators ≡ true → parts.administrators ≡ true
  pub roles : needed.roles ≡ true → parts.roles ≡ true
  pub units : needed.units ≡ true → parts.units ≡ true
  pub parcels : needed.parcels ≡ true → parts.parcels ≡ true
  pub sources : needed.sources ≡ true → parts.sources ≡ true

module _ (parts : SliceParts) (r : Register) (caller : Caller) (it : Decision) (m : MutationRecord) (there : map.get r.mutations it.mutation ≡ Some m) where
  abbrev a : Act
  a = act.Approve it

  abbrev s : Register
  s = slice_with parts r caller a

  unit_named : (unit : ℕ) → content_names_unit unit m.content ≡ true → names_unit r a unit ≡ true
  unit_named unit names = ap (λ o. option_map_or (λ m. content_names_unit unit m.content) o false) there ∙ names

  party_named : (party : ℕ) → content_names_party party m.content ≡ true → names_party r a party ≡ true
  party_named party names = ap (λ o. option_map_or (λ m. content_names_party party m.content) o false) there ∙ names

  agree : parts.units ≡ true → (unit : ℕ) → content_names_unit unit m.content ≡ true → AgreeOnUnit s r unit
  agree units unit names = record {
    kept = λ n e. includes_rrr parts r a n e;
    entries = refl;
    keeps = λ n e in_unit. or_left (includes_unit parts r a e.unit) (names_rrr r a n)
        (unit_included parts r a e.unit units (subst (λ (u : ℕ). names_unit r a u ≡ true) (sym (one_number e.unit unit (tied_number e.unit unit ∙ in_unit))) (unit_named unit names)));
    stands = unit_same parts r caller a units unit (unit_named unit names);
    next = refl;
  }

  checked_same : parts.units ≡ true → (unit : ℕ) → content_names_unit unit m.content ≡ true → map.get s.units unit ≡ map.get r.units unit
  checked_same units unit names =
      get-entries_where nat_cmp_total nat_cmp-IsAntisymmetric (λ k u. includes_unit parts r a k) r.units unit (λ v. unit_included parts r a unit units (unit_named unit names))

  agree_on_units : parts.units ≡ true → parts.parcels ≡ true → AgreeOnUnits s r (λ n. content_names_unit n m.content)
  agree_on_units units parcels = record {
    units = checked_same units;
    kept_parcels = λ n p. parts.parcels && includes_unit parts r a p.unit;
    parcels = refl;
    keeps_parcels = λ n p names. ap (λ b. b && includes_unit parts r a p.unit) parcels ∙ unit_included parts r a p.unit units (unit_named p.unit names);
    kept_entries = λ n e. includes_rrr parts r a n e;
    entries = refl;
    keeps_entries = λ n e names. or_left (includes_unit parts r a e.unit) (names_rrr r a n) (unit_included parts r a e.unit units (unit_named e.unit names));
    next = refl;
  }

  record IsSameContent (c : Content) (stamp : Option ℤ) : Type 0 where
    refusal : first_refusal_of (content_refusals s c stamp) ≡ first_refusal_of (content_refusals r c stamp)
    change : content_change s m.source c ≡ content_change r m.source c
    made : content_made s c ≡ content_made r c

  content_same : (c : Content) → m.content ≡ c → Includes (parts_of_content c) parts → (stamp : Option ℤ) → IsSameContent c stamp
  content_same (content.Transfer it) is includes stamp =
      let unit : content_names_unit it.unit m.content ≡ true = ap (content_names_unit it.unit) is ∙ nat_eq_equiv.refl it.unit in
      let party : content_names_party it.receiver m.content ≡ true = ap (content_names_party it.receiver) is ∙ nat_eq_equiv.refl it.receiver in
      let same = transfer_agrees s r it (agree (includes.units refl) it.unit unit) (stands_same parts r caller a (includes.parties refl) it.receiver (party_named it.receiver party)) (checked_same (includes.units refl) it.unit unit) in
      record { refusal = ap first_refusal_of (same.refusals stamp); change = same.change m.source; made = same.made }
  content_same (content.Subdivision it) is includes stamp =
      let unit : content_names_unit it.unit m.content ≡ true = ap (content_names_unit it.unit) is ∙ nat_eq_equiv.refl it.unit in
      let named : ℕ → Bool = λ n. content_names_unit n m.content in
      record {
        refusal = subdivision_refusal_agrees s r it named (agree_on_units (includes.units refl) (includes.parcels refl)) unit stamp;
        change = subdivision_change_agrees s r it named (agree_on_units (includes.units refl) (includes.parcels refl)) unit m.source;
        made = subdivision_made_agrees s r it named (agree_on_units (includes.units refl) (includes.parcels refl)) unit;
      }
  content_same (content.Merger it) is includes stamp =
      let names : (n : ℕ) → is_unit_of_merger it n ≡ true → content_names_unit n m.content ≡ true = λ n name. ap (content_names_unit n) is ∙ named_in_content it n name in
      let named : ℕ → Bool = λ n. content_names_unit n m.content in
      record {
        refusal = merger_refusal_agrees s r it named (agree_on_units (includes.units refl) (includes.parcels refl)) names stamp;
        change = merger_change_agrees s r it named (agree_on_units (includes.units refl) (includes.parcels refl)) names m.source;
        made = refl;
      }
  content_same (content.Mortgage it) is includes stamp =
      let unit : content_names_unit it.unit m.content ≡ true = ap (content_names_unit it.unit) is ∙ nat_eq_equiv.refl it.unit in
      let party = party_named it.creditor (ap (content_names_party it.creditor) is ∙ nat_eq_equiv.refl it.creditor) in
      record {
        refusal = ap first_refusal_of (mortgage_refusals_agree s r it (agree (includes.units refl) it.unit unit) (stands_same parts r caller a (includes.parties refl) it.creditor party) (holds_same parts r caller a (includes.parties refl) (includes.roles refl) it.creditor Bank party) stamp);
        change = mortgage_change_agrees s r it (agree (includes.units refl) it.unit unit) m.source;
        made = refl;
      }
  content_same (content.Discharge it) is includes stamp =
      let unit : content_names_unit it.unit m.content ≡ true = ap (content_names_unit it.unit) is ∙ nat_eq_equiv.refl it.unit in
      record {
        refusal = discharge_refusal_agrees s r it (agree (includes.units refl) it.unit unit) stamp;
        change = discharge_change_agrees s r it (agree (includes.units refl) it.unit unit);
        made = refl;
      }

-- ---- decisions

-- the outcome of an approval and of a refusal, from the mutation at the number
abbrev approved_by : Register → ℕ → Option ℤ → Option MutationRecord → Result Planned Refusal
approved_by r n stamp o =
    refusal_or
    (first_refusal_of ((NotLodged, not (option_map_or is_undecided o false)) ∷ option_map_or (λ m. content_refusals r m.content stamp) o []))
    (plan_with_stamp (λ at. option_map_or (λ m. with_state Approved n m (content_change r m.source m.content)) o (no_change r.next))
    (λ at. record { number = n; made = option_map_or (λ m. content_made r m.content) o []; stamp = at }) stamp)

-- parts of the slice for an approval
abbrev slice_for : SliceParts → Register → Caller → Decision → Register
slice_for parts r caller it = slice_with parts r caller (act.Approve it)

pub approve_same : (parts : SliceParts) (r : Register) (caller : Caller) (it : Decision) → Includes (needed_parts (mutations_in_slice r caller (act.Approve it)) (act.Approve it)) parts → (stamp : Option ℤ)
    → outcome_of (slice_with parts r caller (act.Approve it)) caller (act.Approve it) stamp ≡ outcome_of r caller (act.Approve it) stamp
approve_same parts r caller it includes stamp =
    ap (approved_by (slice_for parts r caller it) it.mutation stamp) decided
    ∙ by_case (map.get r.mutations it.mutation) refl
  where
    decided : map.get (mutations_in_slice r caller (act.Approve it)) it.mutation ≡ map.get r.mutations it.mutation
    decided = mutation_same r caller (act.Approve it) it.mutation (λ m. nat_eq_equiv.refl it.mutation)

    by_case : (o : Option MutationRecord) → map.get r.mutations it.mutation ≡ o → approved_by (slice_for parts r caller it) it.mutation stamp o ≡ approved_by r it.mutation stamp o
    by_case None e = refl
    by_case (Some m) e =
        let needed = subst (λ (o : Option MutationRecord). Includes (option_map_or (λ m. parts_of_content m.content) o no_parts) parts) (decided ∙ e) includes in
        let same = content_same parts r caller it m e m.content refl needed stamp in
        let decided_mutation : Bool = not (is_undecided m) in
        ap (λ refusal. refusal_or (cond decided_mutation (Some NotLodged) refusal) (plan_with_stamp (λ at. with_state Approved it.mutation m (content_change (slice_for parts r caller it) m.source m.content))
        (λ at. record { number = it.mutation; made = content_made (slice_for parts r caller it) m.content; stamp = at }) stamp)) same.refusal
        ∙ ap (λ change. refusal_or (cond decided_mutation (Some NotLodged) (first_refusal_of (content_refusals r m.content stamp))) (plan_with_stamp (λ at. with_state Approved it.mutation m change)
        (λ at. record { number = it.mutation; made = content_made (slice_for parts r caller it) m.content; stamp = at }) stamp)) same.change
        ∙ ap (λ made. refusal_or (cond decided_mutation (Some NotLodged) (first_refusal_of (content_refusals r m.content stamp)))
        (plan_with_stamp (λ at. with_state Approved it.mutation m (content_change r m.source m.content)) (λ at. record { number = it.mutation; made = made; stamp = at }) stamp)) same.made

abbrev refused_by : Register → ℕ → Option ℤ → Option MutationRecord → Result Planned Refusal
refused_by r n stamp o =
    refusal_or (first_refusal_of ((NotLodged, not (option_map_or is_undecided o false)) ∷ (ClockOut, is_none stamp) ∷ []))
    (plan_with_stamp (λ at. option_map_or (λ m. with_state Refused n m (no_change r.next)) o (no_change r.next)) (λ at. done_on n at) stamp)

pub refuse_same : (parts : SliceParts) (r : Register) (caller : Caller) (it : Decision) (stamp : Option ℤ)
    → outcome_of (slice_with parts r caller (act.Refuse it)) caller (act.Refuse it) stamp ≡ outcome_of r caller (act.Refuse it) stamp
refuse_same parts r caller it stamp =
    ap (refused_by (slice_with parts r caller (act.Refuse it)) it.mutation stamp) (mutation_same r caller (act.Refuse it) it.mutation (λ m. nat_eq_equiv.refl it.mutation))
