-- The relations between a party and the objects of a register: holder, owner, creditor, lodger.
use Rattle.std.specs.Prelude.{ℕ, Bool, false, not, ◌&&◌, ◌||◌, nat_eq, is_some}
use Rattle.std.specs.Option.{option_map_or}
use Rattle.std.specs.FinMap as map
use Rattle.land_core.specs.Contents.{content_names_unit, refers_to_unit_where}
use Rattle.land_core.specs.Entries.{some}
use Rattle.land_core.specs.Mutations.{is_undecided}
use Rattle.land_core.specs.Register.{stands, is_member, is_mutation_where}
use Rattle.land_core.specs.Units.{is_right_of, rank_of, type_of}
use Rattle.land_core.specs.declared.kind.Kind.TheVariants as kind
use Rattle.land_core.specs.declared.mutation.MutationRecord.{MutationRecord}
use Rattle.land_core.specs.declared.register.Register.{Register}
use Rattle.land_core.specs.declared.rrr.Class.{Class}
use Rattle.land_core.specs.declared.rrr.RightType.TheVariants.{Ownership}
use Rattle.land_core.specs.declared.rrr.RrrRecord.{RrrRecord}

-- whether the class is a right
abbrev pub is_right : Class → Bool
is_right class = is_some (type_of class)

-- whether the class is a mortgage
abbrev pub is_mortgage_class : Class → Bool
is_mortgage_class class = is_some (rank_of class)

-- whether a party is a member of a group
abbrev pub is_member_of : Register → (party group : ℕ) → Bool
is_member_of at party group = is_member at group party

-- whether a party has the rights under a name: the name is its own number, or that of a group of which it is
-- a member
abbrev pub holds_under_name : Register → (party named : ℕ) → Bool
holds_under_name at party named = nat_eq named party || is_member_of at party named

-- whether an entry is a right in a unit that the party has
abbrev pub is_held_right : Register → (party unit : ℕ) → RrrRecord → Bool
is_held_right at party unit e = nat_eq e.unit unit && is_right e.class && holds_under_name at party e.party

-- whether an entry is an ownership of a unit that the party has
abbrev pub is_held_ownership : Register → (party unit : ℕ) → RrrRecord → Bool
is_held_ownership at party unit e =
    nat_eq e.unit unit && is_right_of Ownership e.class && holds_under_name at party e.party

-- whether an entry is a mortgage on a unit of which the party is the creditor
abbrev pub is_held_mortgage : (party unit : ℕ) → RrrRecord → Bool
is_held_mortgage party unit e = nat_eq e.unit unit && is_mortgage_class e.class && nat_eq e.party party

-- a holder in a unit has a right in it, directly or as a member of a group
abbrev pub is_holder : Register → (party unit : ℕ) → Bool
is_holder at party unit = stands at kind.Unit unit && some (λ n e. is_held_right at party unit e) at.rrrs

-- an owner of a unit has an ownership of it, directly or as a member of a group
abbrev pub is_owner : Register → (party unit : ℕ) → Bool
is_owner at party unit = stands at kind.Unit unit && some (λ n e. is_held_ownership at party unit e) at.rrrs

-- a creditor on a unit has a mortgage on it
abbrev pub is_creditor_on : Register → (party unit : ℕ) → Bool
is_creditor_on at party unit = stands at kind.Unit unit && some (λ n e. is_held_mortgage party unit e) at.rrrs

-- whether a party lodged a mutation
abbrev pub is_lodger_of : (party : ℕ) → MutationRecord → Bool
is_lodger_of party m = nat_eq m.lodger party

-- whether a mutation is undecided and a party lodged it
abbrev pub is_pending_of : (party : ℕ) → MutationRecord → Bool
is_pending_of party m = is_undecided m && is_lodger_of party m

-- whether an undecided mutation of a party refers to a unit
abbrev pub is_pending_on : (party unit : ℕ) → MutationRecord → Bool
is_pending_on party unit m = is_pending_of party m && content_names_unit unit m.content

-- whether the register has such a mutation; the unit may have ended, or may never have existed
abbrev pub has_pending_mutation_on : Register → (party unit : ℕ) → Bool
has_pending_mutation_on at party unit = some (λ n m. is_pending_on party unit m) at.mutations

-- whether a mutation refers to a unit in which the party is a holder
abbrev pub names_holding : Register → (party : ℕ) → MutationRecord → Bool
names_holding at party m = refers_to_unit_where (is_holder at party) m.content

-- whether a mutation exists and a party lodged it, decided or not
abbrev pub has_lodged : Register → (party number : ℕ) → Bool
has_lodged at party number = is_mutation_where (is_lodger_of party) at number

-- whether an entry exists at a number and satisfies a condition
abbrev pub is_rrr_where : (RrrRecord → Bool) → Register → (number : ℕ) → Bool
is_rrr_where passes at number = option_map_or passes (map.get at.rrrs number) false

-- a holder sees the entries of the unit that are not mortgages; an owner sees the mortgages too
abbrev pub is_visible_to_holder : Register → (party : ℕ) → RrrRecord → Bool
is_visible_to_holder at party e =
    is_holder at party e.unit && (not (is_mortgage_class e.class) || is_owner at party e.unit)

-- a creditor sees an entry unless it is the mortgage of another creditor
abbrev pub is_visible_to_creditor : (party : ℕ) → RrrRecord → Bool
is_visible_to_creditor party e = not (is_mortgage_class e.class) || nat_eq e.party party
