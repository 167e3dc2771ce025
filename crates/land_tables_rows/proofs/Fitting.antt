-- Which parts of a change can be written.
use Rattle.std.proofs.Common.{◌≡◌, ◌∙◌, ℕ, Bool, true, false, cond, ◌&&◌, List, [], ◌∷◌, refl}
use Rattle.std.proofs.lemmas.List.Folds.{list_all-append, list_all-map}
use Rattle.std.specs.FinMap as map
use Rattle.std.specs.List.{flat_map, list_all}
use Rattle.std.specs.Prelude.{filter, length, nat_le, not}
use Rattle.std.proofs.lemmas.Bool.{and_from, and_parts}
use Rattle.land_core.specs.Contents.{is_amount, is_currency, is_well_formed_content}
use Rattle.land_core.specs.Members.{Members, member_with_share, members_in}
use Rattle.land_core.specs.Mergers.{are_merged_parcels, are_other_units, are_ascending_numbers, lists_number, all_above}
use Rattle.land_core.specs.Numbers.{is_number}
use Rattle.land_core.specs.Subdivisions.{are_further_parts}
use Rattle.land_core.specs.Texts.{is_label, is_reference}
use Rattle.land_core.specs.declared.change.Change.{Change}
use Rattle.land_core.specs.declared.content.Content.{Content}
use Rattle.land_core.specs.declared.content.Content.TheVariants as content
use Rattle.land_core.specs.declared.mutation.MutationRecord.{MutationRecord}
use Rattle.land_tables_history.specs.Changed.{listed_members, named_by, new_mutations}
use Rattle.land_tables_history.specs.History.{named_units}
use Rattle.land_tables_rows.specs.Cells.Texts.{is_storable}
use Rattle.land_tables_rows.specs.Member.Writing.{fits_member}
use Rattle.land_tables_rows.specs.Mutation.Cells.{fits_mutation, is_content_kept, is_moment}
use Rattle.land_tables_rows.specs.Naming.Writing.{fits_naming}
use Rattle.land_tables_rows.specs.Parcel.Cells.{fits_parcel}
use Rattle.land_tables_rows.specs.Party.Writing.{fits_party}
use Rattle.land_tables_rows.specs.Reading.Cells.{is_next}
use Rattle.land_tables_rows.specs.Recording.Whole.{fits_change, fits_units_and_entries, fits_group, fits_kind, fits_sources_and_mutations, fits_parties_and_roles, memberships_of_group, mutation_names}
use Rattle.land_tables_rows.specs.Rrr.Cells.{fits_rrr}
use Rattle.land_tables_rows.specs.Source.Writing.{fits_source}
use Rattle.land_tables_rows.specs.Unit.Writing.{fits_unit}

-- ---- lists

-- if one test follows from another, it follows for every element
pub all_so : {X : Type 0} (p q : X → Bool) → ((x : X) → p x ≡ true → q x ≡ true) → (xs : List X) → list_all p xs ≡ true → list_all q xs ≡ true
all_so p q so [] h = refl
all_so p q so (x ∷ xs) h = and_from (q x) (list_all q xs) (so x (and_parts (p x) (list_all p xs) h).0) (all_so p q so xs (and_parts (p x) (list_all p xs) h).1)

-- and for all elements that they list
all_listed : {X Y : Type 0} (p : X → Bool) (q : Y → Bool) (f : X → List Y) → ((x : X) → p x ≡ true → list_all q (f x) ≡ true) → (xs : List X) → list_all p xs ≡ true → list_all q (flat_map f xs) ≡ true
all_listed p q f so [] h = refl
all_listed p q f so (x ∷ xs) h =
    list_all-append q (f x) (flat_map f xs)
    ∙ and_from (list_all q (f x)) (list_all q (flat_map f xs)) (so x (and_parts (p x) (list_all p xs) h).0) (all_listed p q f so xs (and_parts (p x) (list_all p xs) h).1)

-- elements that pass a test
all_of : {X : Type 0} (p t : X → Bool) (xs : List X) → list_all p xs ≡ true → list_all p (filter t xs) ≡ true
all_of p t [] h = refl
all_of p t (x ∷ xs) h = go (t x) (and_parts (p x) (list_all p xs) h).0 (all_of p t xs (and_parts (p x) (list_all p xs) h).1)
  where
    go : (b : Bool) → p x ≡ true → list_all p (filter t xs) ≡ true → list_all p (cond b (x ∷ filter t xs) (filter t xs)) ≡ true
    go true here rest = and_from (p x) (list_all p (filter t xs)) here rest
    go false here rest = rest

-- ---- groups

group_fits : (g : ℕ × Members) → fits_group g ≡ true → list_all fits_member (memberships_of_group g.0 g.1) ≡ true
group_fits g h =
    let e = and_parts (is_number g.0) (list_all (λ e. is_number e.0) (map.entries g.1)) h in
    list_all-map fits_member (λ m. record { group = g.0; member = m }) (members_in g.1)
    ∙ list_all-map (λ m. is_number g.0 && is_number m.party) (λ e. member_with_share e.0 e.1) (map.entries g.1)
    ∙ all_so (λ e. is_number e.0) (λ e. is_number g.0 && is_number e.0) (λ m h. and_from (is_number g.0) (is_number m.0) e.0 h) (map.entries g.1) e.1

-- if groups can be written, so can their members
pub members_fit : (groups : List (ℕ × Members)) → list_all fits_group groups ≡ true → list_all fits_member (listed_members groups) ≡ true
members_fit groups h = all_listed fits_group fits_member (λ g. memberships_of_group g.0 g.1) group_fits groups h

-- and so can the numbers of the groups
pub groups_known : (groups : List (ℕ × Members)) → list_all fits_group groups ≡ true → list_all (λ g. is_number g.0) groups ≡ true
groups_known groups h = all_so fits_group (λ g. is_number g.0) (λ g h. (and_parts (is_number g.0) (list_all (λ e. is_number e.0) (map.entries g.1)) h).0) groups h

-- ---- mutations

units_fit : (it : Content) → is_well_formed_content it ≡ true → list_all is_number (named_units it) ≡ true
units_fit (content.Transfer it) h =
    and_from (is_number it.unit) true (and_parts (is_number it.unit) (is_number it.right) (and_parts (is_number it.unit && is_number it.right) (is_number it.receiver) h).0).0 refl
units_fit (content.Subdivision it) h =
    and_from (is_number it.unit) true
    (and_parts (is_number it.unit) (is_number it.parcel) (and_parts (is_number it.unit && is_number it.parcel) (is_label it.first.label)
    (and_parts (is_number it.unit && is_number it.parcel && is_label it.first.label) (are_further_parts it.rest) h).0).0).0 refl
units_fit (content.Merger it) h =
    let e = and_parts (is_number it.unit && are_other_units it.unit it.others) (are_merged_parcels it.parcels) (and_parts (is_number it.unit && are_other_units it.unit it.others && are_merged_parcels it.parcels) (is_label it.label) h).0 in
    let units = and_parts (is_number it.unit) (are_other_units it.unit it.others) e.0 in
    let others = and_parts (nat_le (length it.others) 15 && are_ascending_numbers it.others) (not (lists_number it.others it.unit)) units.1 in
    let rising = and_parts (nat_le (length it.others) 15) (are_ascending_numbers it.others) others.0 in
    and_from (is_number it.unit) (list_all is_number it.others) units.0 (and_parts (all_above 0 it.others) (list_all is_number it.others) rising.1).1
units_fit (content.Mortgage it) h =
    and_from (is_number it.unit) true (and_parts (is_number it.unit) (is_number it.creditor) (and_parts (is_number it.unit && is_number it.creditor) (is_amount it.amount)
    (and_parts (is_number it.unit && is_number it.creditor && is_amount it.amount) (is_currency it.currency) h).0).0).0 refl
units_fit (content.Discharge it) h = and_from (is_number it.unit) true (and_parts (is_number it.unit) (is_number it.mortgage) h).0 refl

names_fit : (m : ℕ × MutationRecord) → fits_mutation m ≡ true → list_all fits_naming (mutation_names m.0 m.1.content) ≡ true
names_fit m h =
    let first = and_parts (is_number m.0) _ h in
    let lodger = and_parts (is_number m.1.lodger) _ first.1 in
    let reference = and_parts (is_storable is_reference m.1.reference) _ lodger.1 in
    let source = and_parts (is_number m.1.source) _ reference.1 in
    let lodged = and_parts (is_moment m.1.lodged) _ source.1 in
    let content = and_parts (is_content_kept m.1.content) (is_well_formed_content m.1.content) lodged.1 in
    list_all-map fits_naming (λ unit. record { mutation = m.0; unit = unit }) (named_units m.1.content)
    ∙ all_so is_number (λ unit. is_number m.0 && is_number unit) (λ unit h. and_from (is_number m.0) (is_number unit) first.0 h) (named_units m.1.content) (units_fit m.1.content content.1)

-- if mutations can be written, so can the units that they refer to
pub all_names_fit : (next : ℕ) (put : List (ℕ × MutationRecord)) → list_all fits_mutation put ≡ true → list_all fits_naming (named_by (new_mutations next put)) ≡ true
all_names_fit next put h =
    all_listed fits_mutation fits_naming (λ m. mutation_names m.0 m.1.content) names_fit (new_mutations next put) (all_of fits_mutation (λ m. nat_le next m.0) put h)

-- ---- of a change: the keys of inserted records are object numbers

numbers_known : {V : Type 0} (rest : ℕ × V → Bool) (put : List (ℕ × V)) (ended : List ℕ) → fits_kind (λ e. is_number e.0 && rest e) is_number put ended ≡ true → list_all (λ e. is_number e.0) put ≡ true
numbers_known rest put ended h =
    all_so (λ e. is_number e.0 && rest e) (λ e. is_number e.0) (λ e h. (and_parts (is_number e.0) (rest e) h).0) put (and_parts (list_all (λ e. is_number e.0 && rest e) put) (list_all is_number ended) h).0

pub parties_known : (change : Change) → fits_parties_and_roles change ≡ true → list_all (λ e. is_number e.0) change.put.parties ≡ true
parties_known change h = numbers_known _ change.put.parties change.ended.parties (and_parts (fits_kind (λ e. fits_party e.0 e.1) is_number change.put.parties change.ended.parties) _ h).0

pub units_known : (change : Change) → fits_units_and_entries change ≡ true → list_all (λ e. is_number e.0) change.put.units ≡ true
units_known change h = numbers_known _ change.put.units change.ended.units (and_parts (fits_kind (λ e. fits_unit e.0 e.1) is_number change.put.units change.ended.units) _ h).0

pub parcels_known : (change : Change) → fits_units_and_entries change ≡ true → list_all (λ e. is_number e.0) change.put.parcels ≡ true
parcels_known change h =
    let rest = (and_parts (fits_kind (λ e. fits_unit e.0 e.1) is_number change.put.units change.ended.units) _ h).1 in
    numbers_known _ change.put.parcels change.ended.parcels (and_parts (fits_kind fits_parcel is_number change.put.parcels change.ended.parcels) (fits_kind fits_rrr is_number change.put.rrrs change.ended.rrrs) rest).0

pub rrrs_known : (change : Change) → fits_units_and_entries change ≡ true → list_all (λ e. is_number e.0) change.put.rrrs ≡ true
rrrs_known change h =
    let rest = (and_parts (fits_kind (λ e. fits_unit e.0 e.1) is_number change.put.units change.ended.units) _ h).1 in
    numbers_known _ change.put.rrrs change.ended.rrrs (and_parts (fits_kind fits_parcel is_number change.put.parcels change.ended.parcels) (fits_kind fits_rrr is_number change.put.rrrs change.ended.rrrs) rest).1

pub sources_known : (change : Change) → fits_sources_and_mutations change ≡ true → list_all (λ e. is_number e.0) change.put.sources ≡ true
sources_known change h = numbers_known _ change.put.sources change.ended.sources (and_parts (fits_kind (λ e. fits_source e.0 e.1) is_number change.put.sources change.ended.sources) _ h).0

pub mutations_known : (change : Change) → fits_sources_and_mutations change ≡ true → list_all (λ e. is_number e.0) change.put.mutations ≡ true
mutations_known change h = numbers_known _ change.put.mutations change.ended.mutations (and_parts (fits_kind (λ e. fits_source e.0 e.1) is_number change.put.sources change.ended.sources) _ h).1

pub estates_of : (change : Change) → fits_change change ≡ true → fits_units_and_entries change ≡ true
estates_of change h = (and_parts (fits_units_and_entries change) (fits_sources_and_mutations change && is_next change.next) (and_parts (fits_parties_and_roles change) (fits_units_and_entries change && (fits_sources_and_mutations change && is_next change.next)) h).1).0

pub papers_of : (change : Change) → fits_change change ≡ true → fits_sources_and_mutations change ≡ true
papers_of change h =
    (and_parts (fits_sources_and_mutations change) (is_next change.next) (and_parts (fits_units_and_entries change) (fits_sources_and_mutations change && is_next change.next) (and_parts (fits_parties_and_roles change) (fits_units_and_entries change && (fits_sources_and_mutations change && is_next change.next)) h).1).1).0
