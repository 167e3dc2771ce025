-- The references of a sound register's mutations to units, without duplicates.
use Rattle.std.proofs.Common.{◌≡◌, ℕ, Bool, true, false, not, ◌||◌, ◌&&◌, ◌==◌, List, [], ◌∷◌, ◌++◌, length, flat_map, map as map_list, refl, sym, ap, ◌∙◌, arith, IsPermutation}
use Rattle.std.specs.Prelude.{ℤ, nat_eq, nat_lt}
use Rattle.std.proofs.lemmas.Bool.Decides.{nat_tests}
use Rattle.std.proofs.lemmas.List.Folds.{list_any-append}
use Rattle.std.specs.FinMap as map
use Rattle.std.specs.FinMap.{FinMap, is_sorted}
use Rattle.std.specs.FinMap.Entries.{below_all}
use Rattle.std.specs.List.{AllByRecursion, list_all, list_any}
use Rattle.std.specs.Ordering.{is_lt, nat_cmp}
use Rattle.std.proofs.lemmas.Bool.{and_parts, eqb-true, not-false, not-true, or_parts}
use Rattle.std.proofs.lemmas.Cmp.{nat_eq_equiv}
use Rattle.land_core.proofs.Booleans.{T_true}
use Rattle.land_core.proofs.SoundRegisters.{refers}
use Rattle.land_core.specs.Contents.{is_well_formed_content}
use Rattle.land_core.specs.Entries.{are_distinct, has}
use Rattle.land_core.specs.Mergers.{are_merged_parcels, are_other_units, are_ascending_numbers, lists_number, all_above}
use Rattle.land_core.specs.Numbers.{is_number}
use Rattle.land_core.specs.Soundness.{IsSound, is_dangling_mutation}
use Rattle.land_core.specs.Texts.{is_label}
use Rattle.land_core.specs.declared.content.Content.{Content}
use Rattle.land_core.specs.declared.content.Content.TheVariants as content
use Rattle.land_core.specs.declared.mutation.MutationRecord.{MutationRecord}
use Rattle.land_core.specs.declared.register.Register.{Register}
use Rattle.land_core.specs.declared.soundness.Unsound.TheVariants.{Reference}
use Rattle.land_tables_history.proofs.Distinct.{as_many, distinct_standing, same_items}
use Rattle.land_tables_history.proofs.Entered.{distinct-map, distinct_alike}
use Rattle.land_tables_history.proofs.NamingTests.{told_all}
use Rattle.land_tables_history.specs.History.{named_units, namings_of}
use Rattle.land_tables_history.specs.Intervals.{AreApart, is_same_naming}
use Rattle.land_tables_history.specs.ValidHistory.{are_same_namings, is_told}
use Rattle.land_tables_history.specs.Standing.{current_values, is_current}
use Rattle.land_tables_history.specs.declared.naming.Naming.{Naming}
use Rattle.land_tables_history.specs.declared.version.Version.{Version}

-- ---- the units that a content names

below_differs : (last n : ℕ) → nat_lt last n ≡ true → nat_eq last n ≡ false
below_differs last n less = grind (arith, nat_tests)

below_more : (k last n : ℕ) → nat_lt k last ≡ true → nat_lt last n ≡ true → nat_lt k n ≡ true
below_more k last n less more = grind (arith, nat_tests)

-- a number below the last one is not among later, increasing ones
none_above : (k last : ℕ) (ns : List ℕ) → nat_lt k last ≡ true → all_above last ns ≡ true → list_any (nat_eq k) ns ≡ false
none_above k last [] less rises = refl
none_above k last (n ∷ ns) less rises =
    let parts = and_parts (nat_lt last n) (all_above n ns) rises in
    let below = below_more k last n less parts.0 in
    ap (λ b. b || list_any (nat_eq k) ns) (below_differs k n below) ∙ none_above k n ns below parts.1

none_above_last : (last : ℕ) (ns : List ℕ) → all_above last ns ≡ true → list_any (nat_eq last) ns ≡ false
none_above_last last [] rises = refl
none_above_last last (n ∷ ns) rises =
    let parts = and_parts (nat_lt last n) (all_above n ns) rises in
    ap (λ b. b || list_any (nat_eq last) ns) (below_differs last n parts.0) ∙ none_above last n ns parts.0 parts.1

rising_distinct : (last : ℕ) (ns : List ℕ) → all_above last ns ≡ true → are_distinct nat_eq ns ≡ true
rising_distinct last [] rises = refl
rising_distinct last (n ∷ ns) rises =
    let parts = and_parts (nat_lt last n) (all_above n ns) rises in
    ap (λ b. not b && are_distinct nat_eq ns) (none_above_last n ns parts.1) ∙ rising_distinct n ns parts.1

not_listed : (unit : ℕ) (ns : List ℕ) → list_any (nat_eq unit) ns ≡ lists_number ns unit
not_listed unit [] = refl
not_listed unit (n ∷ ns) = ap (λ b. b || list_any (nat_eq unit) ns) (nat_eq_equiv.symm unit n) ∙ ap (λ b. nat_eq n unit || b) (not_listed unit ns)

distinct_units : (c : Content) → is_well_formed_content c ≡ true → are_distinct nat_eq (named_units c) ≡ true
distinct_units (content.Transfer it) well = refl
distinct_units (content.Subdivision it) well = refl
distinct_units (content.Merger it) well =
    let three = and_parts (is_number it.unit && are_other_units it.unit it.others && are_merged_parcels it.parcels) (is_label it.label) well in
    let two = and_parts (is_number it.unit && are_other_units it.unit it.others) (are_merged_parcels it.parcels) three.0 in
    let one = and_parts (is_number it.unit) (are_other_units it.unit it.others) two.0 in
    let apart = and_parts _ (not (lists_number it.others it.unit)) one.1 in
    let rising = and_parts _ (are_ascending_numbers it.others) apart.0 in
    let rises = and_parts (all_above 0 it.others) (list_all is_number it.others) rising.1 in
    ap (λ b. not b && are_distinct nat_eq it.others) (not_listed it.unit it.others ∙ not-true (lists_number it.others it.unit) apart.1) ∙ rising_distinct 0 it.others rises.0
distinct_units (content.Mortgage it) well = refl
distinct_units (content.Discharge it) well = refl

-- ---- the namings of mutations

naming_of : ℕ → ℕ → Naming
naming_of mutation unit = record { mutation = mutation; unit = unit }

abbrev named_by : ℕ × MutationRecord → List Naming
named_by m = map_list (λ unit. let n : Naming = record { mutation = m.0; unit = unit } in n) (named_units m.1.content)

-- a reference of another mutation is not among those of this one
other_mutation : (n : Naming) (k : ℕ) (units : List ℕ) → nat_eq n.mutation k ≡ false → list_any (is_same_naming n) (map_list (λ unit. let n : Naming = record { mutation = k; unit = unit } in n) units) ≡ false
other_mutation n k [] apart = refl
other_mutation n k (u ∷ us) apart = ap (λ b. (b && nat_eq n.unit u) || list_any (is_same_naming n) (map_list (λ unit. let n : Naming = record { mutation = k; unit = unit } in n) us)) apart ∙ other_mutation n k us apart

smaller : (k n : ℕ) → is_lt (nat_cmp k n) ≡ true → nat_eq k n ≡ false
smaller k n less = grind (arith, nat_tests)

-- a reference of an earlier mutation is not among those of later ones
later_mutations : (n : Naming) (es : List (ℕ × MutationRecord)) → below_all nat_cmp n.mutation es ≡ true → list_any (is_same_naming n) (flat_map named_by es) ≡ false
later_mutations n [] below = refl
later_mutations n (e ∷ es) below =
    let parts = and_parts (is_lt (nat_cmp n.mutation e.0)) (below_all nat_cmp n.mutation es) below in
    list_any-append (is_same_naming n) (named_by e) (flat_map named_by es)
    ∙ ap (λ b. b || list_any (is_same_naming n) (flat_map named_by es)) (other_mutation n e.0 (named_units e.1.content) (smaller n.mutation e.0 parts.0)) ∙ later_mutations n es parts.1

-- distinct items, before others that contain none of them
distinct-append : {X : Type 0} (same : X → X → Bool) (xs ys : List X) → are_distinct same xs ≡ true → are_distinct same ys ≡ true → AllByRecursion (λ x. list_any (same x) ys ≡ false) xs → are_distinct same (xs ++ ys) ≡ true
distinct-append same [] ys dx dy apart = dy
distinct-append same (x ∷ xs) ys dx dy apart =
    let parts = and_parts (not (list_any (same x) xs)) (are_distinct same xs) dx in
    ap (λ b. not b && are_distinct same (xs ++ ys)) (list_any-append (same x) xs ys ∙ ap (λ b. b || list_any (same x) ys) (not-true (list_any (same x) xs) parts.0) ∙ apart.0)
    ∙ distinct-append same xs ys parts.1 dy apart.1

same_unit : (k u w : ℕ) → (nat_eq k k && nat_eq u w) ≡ nat_eq u w
same_unit k u w = ap (λ b. b && nat_eq u w) (nat_eq_equiv.refl k)

named_distinct : (es : List (ℕ × MutationRecord)) → is_sorted nat_cmp es ≡ true → AllByRecursion (λ e. is_well_formed_content e.1.content ≡ true) es → are_distinct is_same_naming (flat_map named_by es) ≡ true
named_distinct [] sorted well = refl
named_distinct (e ∷ es) sorted well =
    let parts = and_parts (below_all nat_cmp e.0 es) (is_sorted nat_cmp es) sorted in
    distinct-append is_same_naming (named_by e) (flat_map named_by es)
    (distinct-map is_same_naming (λ unit. let n : Naming = record { mutation = e.0; unit = unit } in n) (named_units e.1.content)
    ∙ distinct_alike (λ u w. nat_eq e.0 e.0 && nat_eq u w) nat_eq (λ u w. same_unit e.0 u w) (named_units e.1.content) ∙ distinct_units e.1.content well.0) (named_distinct es parts.1 well.1)
    (each (named_units e.1.content) parts.0)
  where
    each : (units : List ℕ) → below_all nat_cmp e.0 es ≡ true → AllByRecursion (λ n. list_any (is_same_naming n) (flat_map named_by es) ≡ false) (map_list (λ unit. let n : Naming = record { mutation = e.0; unit = unit } in n) units)
    each [] below = tt
    each (u ∷ us) below = (later_mutations (record { mutation = e.0; unit = u }) es below, each us below)

-- ---- the contents of a sound register

well_formed : (r : Register) (es : List (ℕ × MutationRecord)) → list_any (λ e. is_dangling_mutation r e.1) es ≡ false → AllByRecursion (λ e. is_well_formed_content e.1.content ≡ true) es
well_formed r [] none = tt
well_formed r (e ∷ es) none =
    let parts = or_parts (is_dangling_mutation r e.1) (list_any (λ e. is_dangling_mutation r e.1) es) none in
    ((and_parts (has r.parties e.1.lodger && has r.sources e.1.source) (is_well_formed_content e.1.content) (not-false _ parts.0)).1, well_formed r es parts.1)

pub namings_distinct : (r : Register) → IsSound r → are_distinct is_same_naming (namings_of r.mutations) ≡ true
namings_distinct r sound =
    named_distinct (map.entries r.mutations) (T_true (is_sorted nat_cmp (map.entries r.mutations)) (map.entries_sorted r.mutations)) (well_formed r (map.entries r.mutations) (refers r (sound Reference)).mutations)

-- ---- equal namings without duplicates

one_naming : (a b : Naming) → is_same_naming a b ≡ true → a ≡ b
one_naming a b is =
    let parts = and_parts (a.mutation == b.mutation) (a.unit == b.unit) is in
    ap (λ (k : ℕ). let n : Naming = record { mutation = k; unit = a.unit } in n) (eqb-true a.mutation b.mutation parts.0)
    ∙ ap (λ (u : ℕ). let n : Naming = record { mutation = b.mutation; unit = u } in n) (eqb-true a.unit b.unit parts.1)

naming_itself : (a : Naming) → is_same_naming a a ≡ true
naming_itself a = same_unit a.mutation a.unit a.unit ∙ nat_eq_equiv.refl a.unit

pub same_namings : (current_values named : List Naming) → are_distinct is_same_naming current_values ≡ true → are_distinct is_same_naming named ≡ true → are_same_namings current_values named ≡ true → IsPermutation current_values named
same_namings current_values named ds dn same =
    let parts = and_parts (list_all (λ n. list_any (is_same_naming n) named) current_values) (list_all (λ n. list_any (is_same_naming n) current_values) named) same in
    same_items is_same_naming one_naming naming_itself current_values named ds dn parts.0 parts.1

-- if the mutations' references are among the current rows, and equally many, then they are the same
pub named_both : (t : ℤ) (versions : List (Version Naming)) (mutations : FinMap nat_cmp MutationRecord) → AreApart is_same_naming versions → are_distinct is_same_naming (namings_of mutations) ≡ true
    → (one other : Bool) → one ≡ true → one ≡ list_all (λ v. not (is_current t v) || is_told mutations v.what) versions → other ≡ nat_eq (length (namings_of mutations)) (length (current_values t versions))
    → other ≡ are_same_namings (current_values t versions) (namings_of mutations)
named_both t versions mutations apart once one other is told counted =
    let all : list_all (λ n. list_any (is_same_naming n) (namings_of mutations)) (current_values t versions) ≡ true = sym (told_all t versions mutations) ∙ sym told ∙ is in
    counted
    ∙ sym (as_many is_same_naming one_naming naming_itself (current_values t versions) (namings_of mutations) (distinct_standing is_same_naming t versions apart) once all)
    ∙ ap (λ b. b && list_all (λ n. list_any (is_same_naming n) (current_values t versions)) (namings_of mutations)) (sym all)
