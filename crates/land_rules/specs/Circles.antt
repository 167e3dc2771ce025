-- The circle of a party: the party itself and its principals, which are the parties whose mandates it has as
-- agent. And the relations between a circle and the objects of a register.
use Rattle.std.specs.Prelude.{ℕ, Bool, not, ◌&&◌, ◌||◌, nat_eq, List, ◌∷◌, filter, map as map_list}
use Rattle.std.specs.List.{list_any}
use Rattle.land_core.specs.Contents.{refers_to_unit_where}
use Rattle.land_core.specs.Mandates.{mandates_in}
use Rattle.land_core.specs.declared.mutation.MutationRecord.{MutationRecord}
use Rattle.land_core.specs.declared.register.Register.{Register}
use Rattle.land_core.specs.declared.rrr.RrrRecord.{RrrRecord}
use Rattle.land_rules.specs.Relations.{holds_under_name, is_holder, is_member_of, is_mortgage_class, is_owner}

-- the principals of a party: the parties that gave it a mandate
abbrev pub principals_of : Register → (party : ℕ) → List ℕ
principals_of at party =
    map_list (λ m. m.principal) (filter (λ m. nat_eq m.agent party) (mandates_in at.mandates))

-- the circle of a party: the party and its principals, but not their principals
abbrev pub circle_of : Register → (party : ℕ) → List ℕ
circle_of at party = party ∷ principals_of at party

-- whether a number belongs to a member of the circle of a party
abbrev pub is_in_circle : Register → (party number : ℕ) → Bool
is_in_circle at party number = list_any (nat_eq number) (circle_of at party)

-- whether a member of a circle is a holder in a unit
abbrev pub is_held_by : Register → (circle : List ℕ) → (unit : ℕ) → Bool
is_held_by at circle unit = list_any (λ p. is_holder at p unit) circle

-- whether a member of a circle is an owner in a unit
abbrev pub is_owned_by : Register → (circle : List ℕ) → (unit : ℕ) → Bool
is_owned_by at circle unit = list_any (λ p. is_owner at p unit) circle

-- whether a member of a circle is a member of a group
abbrev pub is_group_of : Register → (circle : List ℕ) → (group : ℕ) → Bool
is_group_of at circle group = list_any (λ p. is_member_of at p group) circle

-- a circle sees an entry if a member of it is a holder in the entry's unit and, if the entry is a mortgage, a
-- member is an owner there
abbrev pub is_visible_to_circle : Register → (circle : List ℕ) → RrrRecord → Bool
is_visible_to_circle at circle e =
    is_held_by at circle e.unit && (not (is_mortgage_class e.class) || is_owned_by at circle e.unit)

-- whether a mutation refers to a unit in which a member of a circle is a holder
abbrev pub names_held_by : Register → (circle : List ℕ) → MutationRecord → Bool
names_held_by at circle m = refers_to_unit_where (is_held_by at circle) m.content

-- whether a circle has rights under a name: the name is that of a member of it, or of a group of which a
-- member of it is a member
abbrev pub is_name_of : Register → (circle : List ℕ) → (named : ℕ) → Bool
is_name_of at circle named = list_any (λ p. holds_under_name at p named) circle
