-- A register with only the objects of a range lists them like the whole register.
use Rattle.std.proofs.Common.{◌≡◌, ◌⊎◌, ◌↔◌, ◌&&◌, ◌++◌, ◌+◌, ◌-◌, ◌^◌, ◌<◌, ◌≤◌, arith, get_or, length, take, inl, inr, ℕ, Bool, true, false, nat_eq, cond, List, [], ◌∷◌, Option, Some, None, refl, sym, ap, ap₂, subst, ◌∙◌}
use Rattle.std.proofs.lemmas.Bool.{and_parts, false≢true, le-leb, leb-true}
use Rattle.std.proofs.lemmas.Bool.Decides.{Decides-eqb}
use Rattle.std.proofs.lemmas.List.{take_more}
use Rattle.std.proofs.lemmas.List.Elements.{Contains-append_left, Contains-append_right}
use Rattle.std.specs.Cmp.{nat_cmp_total}
use Rattle.std.specs.FinMap as map
use Rattle.std.specs.FinMap.{FinMap, nat_cmp-IsAntisymmetric}
use Rattle.std.specs.List.{AllByRecursion, Contains}
use Rattle.std.specs.Option.{option_map, option_map_or}
use Rattle.std.specs.Ordering.{nat_cmp}
use Rattle.land_acts.proofs.EnteredEntries.{here}
use Rattle.land_acts.proofs.TransferSums.{apart_to}
use Rattle.land_core.proofs.FiniteMaps.{none_is_not_some}
use Rattle.land_core.proofs.Reflection.{get-entries_where, some_at}
use Rattle.land_core.specs.Entries.{entries_where, with_entries}
use Rattle.land_core.specs.Register.{members_of, empty_register, roles_of}
use Rattle.land_core.specs.declared.kind.Kind.{Kind}
use Rattle.land_core.specs.declared.kind.Kind.TheVariants as kind
use Rattle.land_core.specs.declared.mutation.MutationRecord.{MutationRecord}
use Rattle.land_core.specs.declared.object.Object.TheVariants as object
use Rattle.land_core.specs.declared.parcel.ParcelRecord.{ParcelRecord}
use Rattle.land_core.specs.declared.party.PartyRecord.{PartyRecord}
use Rattle.land_core.specs.declared.register.Register.{Register}
use Rattle.land_core.specs.declared.rrr.RrrRecord.{RrrRecord}
use Rattle.land_core.specs.declared.source.SourceRecord.{SourceRecord}
use Rattle.land_core.specs.declared.unit.UnitRecord.{UnitRecord}
use Rattle.land_keep.specs.Named.{named_object, objects_at}
use Rattle.land_keep.specs.Sheets.{name_at}
use Rattle.land_keep.specs.declared.named.NamedObject.{NamedObject}
use Rattle.land_select.specs.Listing.{IsTightRange, ListsAlike}
use Rattle.land_select_queries.proofs.Containing.{first, first as first_in, first_or_later, in_nothing, later}
use Rattle.land_select_queries.specs.Lookups.Parties.{has_entry_among, of_range}
use Rattle.land_select_queries.specs.Lookups.Ranges.{is_within}
use Rattle.sqlite_trees.proofs.ListLemmas.{all-append}

-- the numbers in the range are listed alike, so all numbers of a list in it are
pub objects_alike : (k : Kind) (first last : ℕ) (one other : Register) → ListsAlike k first last one other → (numbers : List ℕ) → AllByRecursion (λ n. is_within first last n ≡ true) numbers
    → objects_at one k numbers ≡ objects_at other k numbers
objects_alike k first last one other alike [] all = refl
objects_alike k first last one other alike (n ∷ ns) all = ap₂ (λ a b. a ++ b) (alike n all.0) (objects_alike k first last one other alike ns all.1)

-- ---- the range of some numbers

in_range : (first last n : ℕ) → first ≤ n → n ≤ last → is_within first last n ≡ true
in_range first last n low high = ap₂ (λ a b. a && b) (le-leb first n low) (le-leb n last high)

widened : (first last least most n : ℕ) → least ≤ first → last ≤ most → is_within first last n ≡ true → is_within least most n ≡ true
widened first last least most n low high is =
    let parts = and_parts _ _ is in
    let above : first ≤ n = leb-true first n parts.0 in
    let below : n ≤ last = leb-true n last parts.1 in
    in_range least most n (omega arith) (omega arith)

all_widened : (first last least most : ℕ) → least ≤ first → last ≤ most → (numbers : List ℕ) → AllByRecursion (λ n. is_within first last n ≡ true) numbers → AllByRecursion (λ n. is_within least most n ≡ true) numbers
all_widened first last least most low high [] all = tt
all_widened first last least most low high (n ∷ ns) all = (widened first last least most n low high all.0, all_widened first last least most low high ns all.1)

-- one more number is in the range that is widened for it
pub one_more_within : (numbers : List ℕ) (i first last least most : ℕ) → i < length numbers → least ≤ first → last ≤ most → least ≤ get_or numbers i 0 → get_or numbers i 0 ≤ most
    → AllByRecursion (λ n. is_within first last n ≡ true) (take i numbers) → AllByRecursion (λ n. is_within least most n ≡ true) (take (i + 1) numbers)
one_more_within numbers i first last least most inside low high above below all =
    let n = get_or numbers i 0 in
    subst (λ (ns : List ℕ). AllByRecursion (λ n. is_within least most n ≡ true) ns) (sym (take_more numbers i 0 inside))
    (all-append (λ n. is_within least most n ≡ true) (take i numbers) (n ∷ []) (all_widened first last least most low high (take i numbers) all) (in_range least most n above below, tt))

-- the range of the numbers that were seen: at the start, it is the empty range with which the search begins
abbrev pub IsTightUntil : List ℕ → (first last : ℕ) → Type 0
IsTightUntil seen first last =
    ((length seen ≡ 0) × (first ≡ 2 ^ 64 - 1) × (last ≡ 0)) ⊎ (Contains seen first × Contains seen last)

-- one more number keeps it tight
pub one_more_tight : (numbers : List ℕ) (i first last least most : ℕ) → i < length numbers → get_or numbers i 0 < 2 ^ 64
    → least ≤ first → least ≤ get_or numbers i 0 → (least ≡ first) ⊎ (least ≡ get_or numbers i 0)
    → last ≤ most → get_or numbers i 0 ≤ most → (most ≡ last) ⊎ (most ≡ get_or numbers i 0)
    → IsTightUntil (take i numbers) first last → IsTightUntil (take (i + 1) numbers) least most
one_more_tight numbers i first last least most inside fits low_first low least_is high_last high most_is tight =
    subst (λ (ns : List ℕ). IsTightUntil ns least most) (sym (take_more numbers i 0 inside)) (inr (elim tight [
      | inl none ↦ (
          let start = none.1 in
          let end = none.2 in
          let is_least : n ≡ least = elim least_is [ inl it ↦ omega (arith, it, start, low, fits) | inr it ↦ sym it ] in
          let is_most : n ≡ most = elim most_is [ inl it ↦ omega (arith, it, end, high) | inr it ↦ sym it ] in
          (subst (λ x. Contains seen x) is_least here, subst (λ x. Contains seen x) is_most here))
      | inr some ↦ (
        elim least_is [
          | inl it ↦ subst (λ x. Contains seen x) (sym it) (Contains-append_left (take i numbers) (n ∷ []) first some.0)
          | inr it ↦ subst (λ x. Contains seen x) (sym it) here
        ],
        elim most_is [
          | inl it ↦ subst (λ x. Contains seen x) (sym it) (Contains-append_left (take i numbers) (n ∷ []) last some.1)
          | inr it ↦ subst (λ x. Contains seen x) (sym it) here
        ],
      )
    ]))
  where
    n : ℕ
    n = get_or numbers i 0

    seen : List ℕ
    seen = take i numbers ++ n ∷ []

    here : Contains seen n
    here = Contains-append_right (take i numbers) (n ∷ []) n (first_in n [])

-- when all numbers were seen, it is their range
pub all_tight : (numbers : List ℕ) (first last : ℕ) → IsTightUntil numbers first last → IsTightRange numbers first last
all_tight [] first last tight = elim tight [
  | inl none ↦ (let start = none.1 in let end = none.2 in omega (arith, start, end))
  | inr some ↦ absurd (in_nothing first some.0)
]
all_tight (n ∷ ns) first last tight = elim tight [
  | inl none ↦ absurd (let it = none.0 in omega (arith, it))
  | inr some ↦ some
]

-- the contents of a map in the range are in the filtered map
found_within : {V : Type 0} (found m : FinMap nat_cmp V) (first last n : ℕ) → found ≡ entries_where (λ k v. is_within first last k) m → is_within first last n ≡ true → map.get found n ≡ map.get m n
found_within {V = V} found m first last n is within =
    ap (λ (f : FinMap nat_cmp V). map.get f n) is ∙ get-entries_where nat_cmp_total nat_cmp-IsAntisymmetric (λ k v. is_within first last k) m n (λ v. within)

-- a unit
abbrev unit_named : Register → ℕ → Option UnitRecord → List NamedObject
unit_named r n o = option_map_or (λ it. named_object r it ∷ []) (option_map object.Unit (option_map (λ u. record { number = n; name = u.name; checked = u.checked }) o)) []

unit_same : (one other : Register) (n : ℕ) (o : Option UnitRecord) → unit_named one n o ≡ unit_named other n o
unit_same one other n None = refl
unit_same one other n (Some u) = refl

pub units_alone : (found : FinMap nat_cmp UnitRecord) (r : Register) (first last : ℕ) → found ≡ entries_where (λ n v. is_within first last n) r.units → ListsAlike kind.Unit first last (record empty_register { units = found }) r
units_alone found r low high is n within =
    ap (unit_named (record empty_register { units = found }) n) (found_within found r.units low high n is within) ∙ unit_same (record empty_register { units = found }) r n (map.get r.units n)

-- a parcel
abbrev parcel_named : Register → ℕ → Option ParcelRecord → List NamedObject
parcel_named r n o = option_map_or (λ it. named_object r it ∷ []) (option_map object.Parcel (option_map (λ u. record { number = n; unit = u.unit; label = u.label; outline = u.outline; source = u.source }) o)) []

parcel_same : (one other : Register) (n : ℕ) (o : Option ParcelRecord) → parcel_named one n o ≡ parcel_named other n o
parcel_same one other n None = refl
parcel_same one other n (Some u) = refl

pub parcels_alone : (found : FinMap nat_cmp ParcelRecord) (r : Register) (first last : ℕ) → found ≡ entries_where (λ n v. is_within first last n) r.parcels → ListsAlike kind.Parcel first last (record empty_register { parcels = found }) r
parcels_alone found r low high is n within =
    ap (parcel_named (record empty_register { parcels = found }) n) (found_within found r.parcels low high n is within) ∙ parcel_same (record empty_register { parcels = found }) r n (map.get r.parcels n)

-- a source
abbrev source_named : Register → ℕ → Option SourceRecord → List NamedObject
source_named r n o = option_map_or (λ it. named_object r it ∷ []) (option_map object.Source (option_map (λ u. record { number = n; kind = u.kind; title = u.title }) o)) []

source_same : (one other : Register) (n : ℕ) (o : Option SourceRecord) → source_named one n o ≡ source_named other n o
source_same one other n None = refl
source_same one other n (Some u) = refl

pub sources_alone : (found : FinMap nat_cmp SourceRecord) (r : Register) (first last : ℕ) → found ≡ entries_where (λ n v. is_within first last n) r.sources → ListsAlike kind.Source first last (record empty_register { sources = found }) r
sources_alone found r low high is n within =
    ap (source_named (record empty_register { sources = found }) n) (found_within found r.sources low high n is within) ∙ source_same (record empty_register { sources = found }) r n (map.get r.sources n)

-- a mutation
abbrev mutation_named : Register → ℕ → Option MutationRecord → List NamedObject
mutation_named r n o = option_map_or (λ it. named_object r it ∷ []) (option_map object.Mutation (option_map (λ u. record { number = n; lodger = u.lodger; reference = u.reference; source = u.source; lodged = u.lodged; state = u.state; content = u.content }) o)) []

mutation_same : (one other : Register) (n : ℕ) (o : Option MutationRecord) → mutation_named one n o ≡ mutation_named other n o
mutation_same one other n None = refl
mutation_same one other n (Some u) = refl

pub mutations_alone : (found : FinMap nat_cmp MutationRecord) (r : Register) (first last : ℕ) → found ≡ entries_where (λ n v. is_within first last n) r.mutations → ListsAlike kind.Mutation first last (record empty_register { mutations = found }) r
mutations_alone found r low high is n within =
    ap (mutation_named (record empty_register { mutations = found }) n) (found_within found r.mutations low high n is within) ∙ mutation_same (record empty_register { mutations = found }) r n (map.get r.mutations n)

-- a party
abbrev party_named : Register → ℕ → Option PartyRecord → List NamedObject
party_named r n o = option_map_or (λ it. named_object r it ∷ []) (option_map object.Party (option_map (λ p. record { number = n; kind = p.kind; name = p.name; members = members_of r n; roles = roles_of r n }) o)) []

party_same : (one other : Register) (n : ℕ) (o : Option PartyRecord) → party_named one n o ≡ party_named other n o
party_same one other n None = refl
party_same one other n (Some p) = refl

pub parties_alone : (found : FinMap nat_cmp PartyRecord) (r : Register) (first last : ℕ) → found ≡ entries_where (λ n v. is_within first last n) r.parties → ListsAlike kind.Party first last (record empty_register { parties = found }) r
parties_alone found r low high is n within =
    ap (party_named (record empty_register { parties = found }) n) (found_within found r.parties low high n is within) ∙ party_same (record empty_register { parties = found }) r n (map.get r.parties n)

-- ---- entries, with their parties

abbrev Numbered : Type 0
Numbered = ℕ × PartyRecord

put_other : (m : FinMap nat_cmp PartyRecord) (k n : ℕ) (v : PartyRecord) → (k ≡ n → ⊥) → map.get (map.insert m k v) n ≡ map.get m n
put_other m k n v apart = map.get-insert nat_cmp_total m k v n ∙ ap (λ b. cond b (Some v) (map.get m n)) (apart_to n k (λ same. apart (sym same)))

put_same : (m : FinMap nat_cmp PartyRecord) (n : ℕ) (v : PartyRecord) → map.get (map.insert m n v) n ≡ Some v
put_same m n v = here m n v

-- inserting other numbers does not change the record of a number
none_put : (list : List Numbered) (m : FinMap nat_cmp PartyRecord) (n : ℕ) → ((party : Numbered) → Contains list party → party.0 ≡ n → ⊥) → map.get (with_entries m list) n ≡ map.get m n
none_put [] m n absent = refl
none_put (p ∷ ps) m n absent =
    none_put ps (map.insert m p.0 p.1) n (λ party there. absent party (later p ps party there)) ∙ put_other m p.0 n p.1 (absent p (first p ps))

-- a record does not change if all that is inserted with its number is equal to it
stays : (list : List Numbered) (m : FinMap nat_cmp PartyRecord) (n : ℕ) (it : PartyRecord) → map.get m n ≡ Some it → ((party : Numbered) → Contains list party → party.0 ≡ n → party.1 ≡ it)
    → map.get (with_entries m list) n ≡ Some it
stays [] m n it got all = got
stays (p ∷ ps) m n it got all = stays ps (map.insert m p.0 p.1) n it (go (nat_eq p.0 n) refl) (λ party there. all party (later p ps party there))
  where
    go : (b : Bool) → nat_eq p.0 n ≡ b → map.get (map.insert m p.0 p.1) n ≡ Some it
    go true is =
        let same = (Decides-eqb p.0 n).0 is in
        subst (λ (k : ℕ). map.get (map.insert m k p.1) n ≡ Some it) (sym same) (put_same m n p.1 ∙ ap (λ (x : PartyRecord). Some x) (all p (first p ps) same))
    go false is = put_other m p.0 n p.1 (λ same. false≢true (sym is ∙ (Decides-eqb p.0 n).1 same)) ∙ got

-- and an inserted record is in the map
one_put : (list : List Numbered) (m : FinMap nat_cmp PartyRecord) (n : ℕ) (it : PartyRecord) → Contains list (n, it) → ((party : Numbered) → Contains list party → party.0 ≡ n → party.1 ≡ it)
    → map.get (with_entries m list) n ≡ Some it
one_put [] m n it among all = absurd (in_nothing (n, it) among)
one_put (p ∷ ps) m n it among all = elim (first_or_later p ps (n, it) among) [
  | inl same ↦
      stays ps (map.insert m p.0 p.1) n it (subst (λ (q : Numbered). map.get (map.insert m q.0 q.1) n ≡ Some it) (sym same) (put_same m n it)) (λ party there. all party (later p ps party there))
  | inr more ↦ one_put ps (map.insert m p.0 p.1) n it more (λ party there. all party (later p ps party there))
]

one_value : {V : Type 0} {x y : V} → Some x ≡ Some y → x ≡ y
one_value e = cc

abbrev entry_with : ℕ → RrrRecord → List ℕ → NamedObject
entry_with n e name = record { object = object.Rrr (record { number = n; unit = e.unit; party = e.party; class = e.class; source = e.source }); name = name }

abbrev entry_named : Register → ℕ → Option RrrRecord → List NamedObject
entry_named r n o = option_map_or (λ it. named_object r it ∷ []) (option_map object.Rrr (option_map (λ e. record { number = n; unit = e.unit; party = e.party; class = e.class; source = e.source }) o)) []

module _ (found : FinMap nat_cmp RrrRecord) (list : List Numbered) (r : Register) (first_number last_number : ℕ) (is : found ≡ entries_where (λ n v. is_within first_number last_number n) r.rrrs)
    (all : (party : Numbered) → Contains list party ↔ ((has_entry_among r (of_range first_number last_number) party.0 ≡ true) × (map.get r.parties party.0 ≡ Some party.1))) where
  abbrev alone : Register
  alone = record empty_register { rrrs = found; parties = with_entries map.empty list }

  -- the party of an entry in the range has its name of the register
  called_alike : (n : ℕ) (e : RrrRecord) → is_within first_number last_number n ≡ true → map.get r.rrrs n ≡ Some e → name_at alone e.party ≡ name_at r e.party
  called_alike n e within got = ap (λ (o : Option PartyRecord). option_map_or (λ (p : PartyRecord). p.name) o []) (go (map.get r.parties e.party) refl)
    where
      passes : (is_within first_number last_number n && nat_eq e.party e.party) ≡ true
      passes = ap₂ (λ a b. a && b) within ((Decides-eqb e.party e.party).1 refl)

      has_one : has_entry_among r (of_range first_number last_number) e.party ≡ true
      has_one = some_at nat_cmp_total nat_cmp-IsAntisymmetric (λ k x. is_within first_number last_number k && nat_eq x.party e.party) r.rrrs n e got passes

      called : FinMap nat_cmp PartyRecord
      called = with_entries map.empty list

      go : (o : Option PartyRecord) → map.get r.parties e.party ≡ o → map.get called e.party ≡ map.get r.parties e.party
      go None none =
          none_put list map.empty e.party (λ party there same. none_is_not_some (sym none ∙ ap (map.get r.parties) (sym same) ∙ ((all party).0 there).1)) ∙ map.get-empty nat_cmp e.party ∙ sym none
      go (Some it) some =
          one_put list map.empty e.party it ((all (e.party, it)).1 (has_one, some)) (λ party there same. one_value (sym ((all party).0 there).1 ∙ ap (map.get r.parties) same ∙ some)) ∙ sym some

  pub register_of_entries : ListsAlike kind.Rrr first_number last_number alone r
  register_of_entries n within = ap (entry_named alone n) (found_within found r.rrrs first_number last_number n is within) ∙ go (map.get r.rrrs n) refl
    where
      go : (o : Option RrrRecord) → map.get r.rrrs n ≡ o → entry_named alone n o ≡ entry_named r n o
      go None got = refl
      go (Some e) got =
          ap (λ (name : List ℕ). entry_with n e name ∷ []) (called_alike n e within got)
