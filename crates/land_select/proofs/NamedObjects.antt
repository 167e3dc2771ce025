-- The lists of parties and units have the numbers that an act refers to.
use Rattle.std.proofs.Common.{◌≡◌, ℕ, Bool, true, false, ◌&&◌, ◌||◌, ◌++◌, nat_eq, is_some, List, [], ◌∷◌, Option, Some, None, refl, sym, ap, ap₂, ◌∙◌}
use Rattle.std.proofs.lemmas.Bool.{false≢true}
use Rattle.std.proofs.lemmas.Bool.Decides.{Decides-eqb}
use Rattle.std.proofs.lemmas.List.{nil_from_length}
use Rattle.std.proofs.lemmas.List.Folds.{list_any-append}
use Rattle.std.specs.Cmp.{nat_cmp_total}
use Rattle.std.specs.FinMap as map
use Rattle.std.specs.FinMap.{FinMap, nat_cmp-IsAntisymmetric}
use Rattle.std.specs.List.{list_any}
use Rattle.std.specs.Option.{option_map_or}
use Rattle.std.specs.Ordering.{nat_cmp}
use Rattle.std.specs.Prelude.{map as map_list}
use Rattle.std.proofs.lemmas.Cmp.{nat_eq_equiv}
use Rattle.land_acts.specs.Slices.{content_names_party, includes_party, includes_unit, is_same_mandate, mutations_in_slice, names_mandate, names_party, names_unit}
use Rattle.land_acts.specs.declared.slice_parts.SliceParts.{SliceParts}
use Rattle.land_core.proofs.Booleans.{or_nothing, same_tests}
use Rattle.land_core.proofs.FiniteSets.{exact_grants, grants_total}
use Rattle.land_core.proofs.Reflection.{get-entries_where, list_any-map}
use Rattle.land_core.specs.Contents.{content_names_unit}
use Rattle.land_core.specs.Entries.{entries_where, some}
use Rattle.land_core.specs.Grants.{Grants, grant_cmp, grant_to, grants_in}
use Rattle.land_core.specs.Register.{holds, is_mutation_where}
use Rattle.land_core.specs.Role.{is_role}
use Rattle.land_core.specs.declared.act.Act.{Act}
use Rattle.land_core.specs.declared.act.Act.TheVariants as act
use Rattle.land_core.specs.declared.caller.Caller.{Caller}
use Rattle.land_core.specs.declared.content.Content.{Content}
use Rattle.land_core.specs.declared.content.Content.TheVariants as content
use Rattle.land_core.specs.declared.mandates.Mandate.{Mandate}
use Rattle.land_core.specs.declared.mutation.MutationRecord.{MutationRecord}
use Rattle.land_core.specs.declared.register.Register.{Register}
use Rattle.land_core.specs.declared.role.Role.{Role}
use Rattle.land_core.specs.declared.role.Role.TheVariants as roles
use Rattle.land_core.specs.declared.roles.Grant.{Grant}
use Rattle.land_select.proofs.Keeping.{entry_found, entry_there, is_kept, none_kept, was_kept}
use Rattle.land_select.specs.Slices.Gathered.{numbers_if, with_number, with_numbers}
use Rattle.land_select.specs.Slices.Named.{lists, mandate_of_act, of_mutation, parties_of, parties_of_content, sources_of, units_of, units_of_content}
use Rattle.land_select_queries.proofs.Containing.{any_decides}

-- ---- truths

turned : (a b c : Bool) → ((a || b) || c) ≡ (b || (a || c))
turned true true c = refl
turned true false c = refl
turned false true c = refl
turned false false c = refl

any_same : {X : Type 0} (p q : X → Bool) → ((x : X) → p x ≡ q x) → (xs : List X) → list_any p xs ≡ list_any q xs
any_same p q same [] = refl
any_same p q same (x ∷ xs) = ap₂ (λ a b. a || b) (same x) (any_same p q same xs)

-- the set of numbers with those of a list
pub asked_with : (ns : List ℕ) (asked : ℕ → Bool) (n : ℕ) → with_numbers ns asked n ≡ (asked n || lists ns n)
asked_with [] asked n = sym (or_nothing (asked n))
asked_with (m ∷ ns) asked n = asked_with ns (with_number m asked) n ∙ turned (nat_eq n m) (asked n) (lists ns n)

-- ---- contents

listed_party : (n : ℕ) (c : Content) → content_names_party n c ≡ lists (parties_of_content c) n
listed_party n (content.Transfer it) = sym (or_nothing (nat_eq n it.receiver))
listed_party n (content.Subdivision it) = refl
listed_party n (content.Merger it) = refl
listed_party n (content.Mortgage it) = sym (or_nothing (nat_eq n it.creditor))
listed_party n (content.Discharge it) = refl

one_unit : (n u : ℕ) → nat_eq u n ≡ (nat_eq n u || false)
one_unit n u = nat_eq_equiv.symm u n ∙ sym (or_nothing (nat_eq n u))

listed_unit : (n : ℕ) (c : Content) → content_names_unit n c ≡ lists (units_of_content c) n
listed_unit n (content.Transfer it) = one_unit n it.unit
listed_unit n (content.Subdivision it) = one_unit n it.unit
listed_unit n (content.Merger it) = ap₂ (λ a b. a || b) (nat_eq_equiv.symm it.unit n) (any_same (λ k. nat_eq k n) (λ k. nat_eq n k) (λ k. nat_eq_equiv.symm k n) it.others)
listed_unit n (content.Mortgage it) = one_unit n it.unit
listed_unit n (content.Discharge it) = one_unit n it.unit

-- ---- acts

-- the mutation that an act decides is one of those that it refers to
module _ (r : Register) (k : ℕ) (mutations : FinMap nat_cmp MutationRecord) (are : mutations ≡ entries_where (λ n m. nat_eq n k) r.mutations) where
  decided_there : map.get mutations k ≡ map.get r.mutations k
  decided_there = ap (λ ms. map.get ms k) are ∙ get-entries_where nat_cmp_total nat_cmp-IsAntisymmetric (λ n m. nat_eq n k) r.mutations k (λ m. nat_eq_equiv.refl k)

  decided_names : (names : ℕ → Content → Bool) (listed : Content → List ℕ) → ((n : ℕ) (c : Content) → names n c ≡ lists (listed c) n) → (n : ℕ)
      → is_mutation_where (λ m. names n m.content) r k ≡ lists (of_mutation listed mutations k) n
  decided_names names listed same n = ap (λ found. option_map_or (λ m. names n m.content) found false) (sym decided_there) ∙ go (map.get mutations k)
    where
      go : (found : Option MutationRecord) → option_map_or (λ m. names n m.content) found false ≡ lists (option_map_or (λ m. listed m.content) found []) n
      go None = refl
      go (Some m) = same n m.content

pub party_listed : (r : Register) (caller : Caller) (a : Act) (mutations : FinMap nat_cmp MutationRecord) → mutations ≡ mutations_in_slice r caller a → (n : ℕ)
    → names_party r a n ≡ lists (parties_of a mutations) n
party_listed r caller (act.Enrol it) mutations are n = refl
party_listed r caller (act.Group it) mutations are n = sym (list_any-map (nat_eq n) (λ member. member.party) it.members)
party_listed r caller (act.Regroup it) mutations are n = ap (λ b. nat_eq n it.group || b) (sym (list_any-map (nat_eq n) (λ member. member.party) it.members))
party_listed r caller (act.Grant it) mutations are n = sym (or_nothing (nat_eq n it.party))
party_listed r caller (act.Revoke it) mutations are n = sym (or_nothing (nat_eq n it.party))
party_listed r caller (act.Mandate it) mutations are n = sym (or_nothing (nat_eq n it.agent))
party_listed r caller (act.Withdraw it) mutations are n = ap (λ b. nat_eq n it.principal || b) (sym (or_nothing (nat_eq n it.agent)))
party_listed r caller (act.Register it) mutations are n = sym (list_any-map (nat_eq n) (λ right. right.party) it.rights)
party_listed r caller (act.Burden it) mutations are n = sym (or_nothing (nat_eq n it.party))
party_listed r caller (act.Lift it) mutations are n = refl
party_listed r caller (act.Lodge it) mutations are n = listed_party n it.content
party_listed r caller (act.Approve it) mutations are n = decided_names r it.mutation mutations are content_names_party parties_of_content listed_party n
party_listed r caller (act.Refuse it) mutations are n = decided_names r it.mutation mutations are content_names_party parties_of_content listed_party n

pub unit_listed : (r : Register) (caller : Caller) (a : Act) (mutations : FinMap nat_cmp MutationRecord) → mutations ≡ mutations_in_slice r caller a → (n : ℕ)
    → names_unit r a n ≡ lists (units_of a mutations) n
unit_listed r caller (act.Enrol it) mutations are n = refl
unit_listed r caller (act.Group it) mutations are n = refl
unit_listed r caller (act.Regroup it) mutations are n = refl
unit_listed r caller (act.Grant it) mutations are n = refl
unit_listed r caller (act.Revoke it) mutations are n = refl
unit_listed r caller (act.Mandate it) mutations are n = refl
unit_listed r caller (act.Withdraw it) mutations are n = refl
unit_listed r caller (act.Register it) mutations are n = refl
unit_listed r caller (act.Burden it) mutations are n = sym (or_nothing (nat_eq n it.unit))
unit_listed r caller (act.Lift it) mutations are n = refl
unit_listed r caller (act.Lodge it) mutations are n = listed_unit n it.content
unit_listed r caller (act.Approve it) mutations are n = decided_names r it.mutation mutations are content_names_unit units_of_content listed_unit n
unit_listed r caller (act.Refuse it) mutations are n = decided_names r it.mutation mutations are content_names_unit units_of_content listed_unit n

pub mandate_named : (caller : Caller) (a : Act) (m : Mandate) → names_mandate caller a m ≡ option_map_or (λ it. is_same_mandate it m) (mandate_of_act caller a) false
mandate_named caller (act.Mandate it) m = refl
mandate_named caller (act.Withdraw it) m = refl
mandate_named caller other m = refl

pub source_listed : (mutations : FinMap nat_cmp MutationRecord) (n : ℕ) → some (λ k m. nat_eq m.source n) mutations ≡ lists (sources_of mutations) n
source_listed mutations n =
    any_same (λ e. nat_eq e.1.source n) (λ e. nat_eq n e.1.source) (λ e. nat_eq_equiv.symm e.1.source n) (map.entries mutations)
    ∙ sym (list_any-map (nat_eq n) (λ e. e.1.source) (map.entries mutations))

-- ---- state administrators

is_there : {V : Type 0} (o : Option V) → is_some o ≡ true → (v : V) × (o ≡ Some v)
is_there (Some v) h = (v, refl)
is_there None h = absurd (false≢true h)

administers : (role : Role) → is_role role roles.StateAdministrator ≡ true → role ≡ roles.StateAdministrator
administers roles.Citizen h = absurd (false≢true h)
administers roles.Conveyancer h = absurd (false≢true h)
administers roles.Notary h = absurd (false≢true h)
administers roles.Bank h = absurd (false≢true h)
administers roles.CertifiedSurveyor h = absurd (false≢true h)
administers roles.StateAdministrator h = refl

granted : (g : Grant) (n : ℕ) (role : Role) → g.party ≡ n → g.role ≡ role → grant_to n role ≡ g
granted g n role e f = ap₂ grant_to (sym e) (sym f)

pub office_listed : (r : Register) (office : Grants) → office ≡ entries_where (λ grant u. is_role grant.role roles.StateAdministrator) r.roles → (n : ℕ)
    → holds r n roles.StateAdministrator ≡ lists (map_list (λ grant. grant.party) (grants_in office)) n
unfolding grants_in
office_listed r office are n =
    same_tests (holds r n roles.StateAdministrator) (list_any (λ e. nat_eq n e.0.party) (map.entries office)) to from
    ∙ sym (list_any-map (nat_eq n) (λ (grant : Grant). grant.party) (map_list (λ e. e.0) (map.entries office)) ∙ list_any-map (λ (grant : Grant). nat_eq n grant.party) (λ e. e.0) (map.entries office))
  where
    whole : (role : Role) → Grant → Unit {0} → Bool
    whole role g u = is_role g.role role

    to : holds r n roles.StateAdministrator ≡ true → list_any (λ e. nat_eq n e.0.party) (map.entries office) ≡ true
    to h =
        let g = grant_to n roles.StateAdministrator in
        let it = is_there (map.get r.roles g) h in
        let kept = is_kept grants_total exact_grants (whole roles.StateAdministrator) r.roles g it.0 it.1 refl in
        let among = entry_found grants_total exact_grants office g it.0 (ap (λ m. map.get m g) are ∙ kept) in
        (any_decides (λ e. nat_eq n e.0.party) (λ e. n ≡ e.0.party) (map.entries office) (λ e h. Decides-eqb n e.0.party)).1 ((g, it.0), among, refl)

    from : list_any (λ e. nat_eq n e.0.party) (map.entries office) ≡ true → holds r n roles.StateAdministrator ≡ true
    from h =
        let it = (any_decides (λ e. nat_eq n e.0.party) (λ e. n ≡ e.0.party) (map.entries office) (λ e h. Decides-eqb n e.0.party)).0 h in
        let got = entry_there grants_total exact_grants office it.0 it.1 in
        let was = was_kept grants_total exact_grants (whole roles.StateAdministrator) r.roles it.0.0 it.0.1 (ap (λ m. map.get m it.0.0) (sym are) ∙ got) in
        ap (λ g. is_some (map.get r.roles g)) (granted it.0.0 n roles.StateAdministrator (sym it.2) (administers it.0.0.role was.1)) ∙ ap is_some was.0

-- ---- what some parts of a slice include

pub included_listed : (b : Bool) (ns : List ℕ) (n : ℕ) → lists (numbers_if b ns) n ≡ (b && lists ns n)
included_listed true ns n = refl
included_listed false ns n = refl

pub included_asked : (b : Bool) (ns : List ℕ) (n : ℕ) → with_numbers (numbers_if b ns) (λ n. false) n ≡ (b && lists ns n)
included_asked b ns n = asked_with (numbers_if b ns) (λ n. false) n ∙ included_listed b ns n

no_administrators : (office : Grants) (n : ℕ) → office ≡ map.empty → false ≡ lists (map_list (λ grant. grant.party) (grants_in office)) n
unfolding grants_in
no_administrators office n is = ap (λ es. lists (map_list (λ grant. grant.party) (map_list (λ e. e.0) es)) n) (sym none)
  where
    none : map.entries office ≡ []
    none = nil_from_length (map.entries office) (sym (map.len-entries office) ∙ ap map.len is ∙ map.len-empty grant_cmp (Unit {0}))

administrators_listed : (b : Bool) (r : Register) (office : Grants) → office ≡ entries_where (λ grant u. b && is_role grant.role roles.StateAdministrator) r.roles → (n : ℕ)
    → (b && holds r n roles.StateAdministrator) ≡ lists (map_list (λ grant. grant.party) (grants_in office)) n
administrators_listed true r office are n = office_listed r office are n
administrators_listed false r office are n = no_administrators office n (are ∙ sym (none_kept grants_total exact_grants r.roles))

-- the numbers of parties that are read are those that the parts include
pub parties_listed : (parts : SliceParts) (r : Register) (caller : Caller) (a : Act) (mutations : FinMap nat_cmp MutationRecord) (office : Grants) → mutations ≡ mutations_in_slice r caller a
    → office ≡ entries_where (λ grant u. parts.administrators && is_role grant.role roles.StateAdministrator) r.roles → (n : ℕ)
    → lists (numbers_if parts.parties (parties_of a mutations) ++ map_list (λ grant. grant.party) (grants_in office)) n ≡ includes_party parts r a n
parties_listed parts r caller a mutations office are held n =
    list_any-append (nat_eq n) (numbers_if parts.parties (parties_of a mutations)) (map_list (λ grant. grant.party) (grants_in office))
    ∙ ap₂ (λ b c. b || c) (included_listed parts.parties (parties_of a mutations) n ∙ ap (λ b. parts.parties && b) (sym (party_listed r caller a mutations are n)))
    (sym (administrators_listed parts.administrators r office held n))

-- and so are those of units
pub units_listed : (parts : SliceParts) (r : Register) (caller : Caller) (a : Act) (mutations : FinMap nat_cmp MutationRecord) → mutations ≡ mutations_in_slice r caller a → (n : ℕ)
    → lists (numbers_if parts.units (units_of a mutations)) n ≡ includes_unit parts r a n
units_listed parts r caller a mutations are n =
    included_listed parts.units (units_of a mutations) n ∙ ap (λ b. parts.units && b) (sym (unit_listed r caller a mutations are n))
