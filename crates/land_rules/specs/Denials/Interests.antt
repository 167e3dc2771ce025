-- The interest of a citizen or a bank in a unit, and the objects that it makes visible. An interest follows
-- from the entries of the unit and from the names under which a citizen has rights.
use Rattle.std.specs.Prelude.{◌≡◌, ◌↔◌, ℕ, Bool, true, false, not, ◌&&◌, ◌||◌, nat_eq, List, if◌then◌else◌}
use Rattle.std.specs.FinMap.{FinMap}
use Rattle.std.specs.List.{Contains, list_any}
use Rattle.std.specs.Ordering.{nat_cmp}
use Rattle.land_core.specs.Contents.{refers_to_unit_where}
use Rattle.land_core.specs.Entries.{entries_where, some}
use Rattle.land_core.specs.Register.{is_mutation_where}
use Rattle.land_core.specs.Role.{is_role}
use Rattle.land_core.specs.Units.{is_right_of}
use Rattle.land_core.specs.declared.caller.Caller.{Caller}
use Rattle.land_core.specs.declared.kind.Kind.{Kind}
use Rattle.land_core.specs.declared.kind.Kind.TheVariants as kind
use Rattle.land_core.specs.declared.mutation.MutationRecord.{MutationRecord}
use Rattle.land_core.specs.declared.register.Register.{Register}
use Rattle.land_core.specs.declared.role.Role.{Role}
use Rattle.land_core.specs.declared.role.Role.TheVariants.{Bank, Citizen}
use Rattle.land_core.specs.declared.rrr.RightType.TheVariants.{Ownership}
use Rattle.land_core.specs.declared.rrr.RrrRecord.{RrrRecord}
use Rattle.land_rules.specs.Circles.{circle_of, is_name_of}
use Rattle.land_rules.specs.Laws.{IsSoundOrNothing}
use Rattle.land_rules.specs.Relations.{is_mortgage_class, is_right, is_rrr_where}
use Rattle.land_rules.specs.Relations.{is_visible_to_creditor}
use Rattle.land_rules.specs.Rules.{sees}
use Rattle.land_rules.specs.declared.denials.interests.Interest.{Interest}
use Rattle.land_rules.specs.declared.denials.interests.Interest.TheVariants.{NoInterest, Holder, Owner}
use Rattle.land_rules.specs.declared.denials.interests.Interest.TheVariants.{Creditor}

-- ---- the interest, from the entries of a unit

-- a map of entries by number
abbrev pub Entries : Type 0
Entries = FinMap nat_cmp RrrRecord

-- the entries of a unit
abbrev pub entries_in_unit : Register → (unit : ℕ) → Entries
entries_in_unit at unit = entries_where (λ n e. nat_eq e.unit unit) at.rrrs

-- whether an entry is a right under one of these names
abbrev pub is_right_under : (is_name : ℕ → Bool) → RrrRecord → Bool
is_right_under is_name e = is_right e.class && is_name e.party

-- whether an entry is an ownership under one of these names
abbrev pub is_ownership_under : (is_name : ℕ → Bool) → RrrRecord → Bool
is_ownership_under is_name e = is_right_of Ownership e.class && is_name e.party

-- whether an entry is a mortgage of which the party is the creditor
abbrev pub is_mortgage_for : (party : ℕ) → RrrRecord → Bool
is_mortgage_for party e = is_mortgage_class e.class && nat_eq e.party party

-- a citizen that has a right in a unit, under one of its names, is a holder; if one of its rights is an
-- ownership, it is an owner
abbrev pub interest_of_citizen : (is_name : ℕ → Bool) → Entries → Interest
interest_of_citizen is_name entries =
    if some (λ n e. is_right_under is_name e) entries
    then (if some (λ n e. is_ownership_under is_name e) entries then Owner else Holder) else NoInterest

-- a bank that has a mortgage on a unit is a creditor
abbrev pub interest_of_bank : (party : ℕ) → Entries → Interest
interest_of_bank party entries = if some (λ n e. is_mortgage_for party e) entries then Creditor else
    NoInterest

-- the interest of a caller; roles other than citizen and bank have no such interest
abbrev pub interest_of : (is_name : ℕ → Bool) → Caller → Entries → Interest
interest_of is_name caller entries =
    if is_role caller.role Citizen then interest_of_citizen is_name entries
    else (if is_role caller.role Bank then interest_of_bank caller.party entries else NoInterest)

-- ---- the objects that an interest makes visible

-- any interest makes the unit visible
abbrev pub shows_unit : Interest → Bool
shows_unit NoInterest = false
shows_unit Holder = true
shows_unit Owner = true
shows_unit Creditor = true

-- of the entries of the unit, a holder sees all except mortgages, an owner sees all, and a creditor sees all
-- except the mortgages of other creditors
abbrev pub shows_entry : Interest → (party : ℕ) → RrrRecord → Bool
shows_entry NoInterest party e = false
shows_entry Holder party e = not (is_mortgage_class e.class)
shows_entry Owner party e = true
shows_entry Creditor party e = is_visible_to_creditor party e

-- ---- in a register

-- the interest of a caller in a unit; the names of a citizen are the members of its circle and the groups of
-- which one of them is a member
abbrev pub interest_at : Register → Caller → (unit : ℕ) → Interest
interest_at at caller unit =
    interest_of (is_name_of at (circle_of at caller.party)) caller (entries_in_unit at unit)

-- whether a mutation refers to a unit that the caller's interest makes visible
abbrev pub names_visible_unit : Register → Caller → MutationRecord → Bool
names_visible_unit at caller m = refers_to_unit_where (λ unit. shows_unit (interest_at at caller unit))
    m.content

-- whether an interest makes an object visible: a unit by the interest in it; an entry that exists by the
-- interest in its unit; a mutation that exists by the interest in a unit to which it refers
abbrev pub is_shown_by_interest : Register → Caller → Kind → (number : ℕ) → Bool
is_shown_by_interest at caller kind.Party number = false
is_shown_by_interest at caller kind.Unit number = shows_unit (interest_at at caller number)
is_shown_by_interest at caller kind.Parcel number = false
is_shown_by_interest at caller kind.Rrr number =
    is_rrr_where (λ e. shows_entry (interest_at at caller e.unit) caller.party e) at number
is_shown_by_interest at caller kind.Source number = false
is_shown_by_interest at caller kind.Mutation number = is_mutation_where
    (names_visible_unit at caller) at number

-- citizens and banks see units and entries by interest, and citizens see mutations by interest
abbrev pub sees_by_interest : Role → Kind → Bool
sees_by_interest role kind.Party = false
sees_by_interest role kind.Unit = is_role role Citizen || is_role role Bank
sees_by_interest role kind.Parcel = false
sees_by_interest role kind.Rrr = is_role role Citizen || is_role role Bank
sees_by_interest role kind.Source = false
sees_by_interest role kind.Mutation = is_role role Citizen

-- in a register that is sound or empty, these roles see an object of these kinds exactly if an interest makes
-- it visible
abbrev pub InterestsDecideSight : Type 0
InterestsDecideSight = (at : Register) → IsSoundOrNothing at → (caller : Caller) (k : Kind) (number : ℕ)
    → sees_by_interest caller.role k ≡ true
    → sees at caller k number ≡ is_shown_by_interest at caller k number

-- ---- the names

-- these are exactly the names under which a citizen has rights; for callers in other roles any list is
-- correct
abbrev pub AreNamesOf : Register → Caller → (names : List ℕ) → Type 0
AreNamesOf at caller names = is_role caller.role Citizen ≡ true → (named : ℕ)
    → Contains names named ↔ (is_name_of at (circle_of at caller.party) named ≡ true)

-- the interest of a caller follows from such a list of names and the entries of the unit
abbrev pub NamesDecideInterests : Type 0
NamesDecideInterests =
    (at : Register) (caller : Caller) (names : List ℕ) → AreNamesOf at caller names → (entries : Entries)
    → interest_of (λ named. list_any (nat_eq named) names) caller entries
    ≡ interest_of (is_name_of at (circle_of at caller.party)) caller entries
