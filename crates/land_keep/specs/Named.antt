-- Objects in lists, each with the name of its party.
use Rattle.std.specs.Prelude.{ℕ, List, [], ◌∷◌}
use Rattle.std.specs.List.{flat_map}
use Rattle.std.specs.Option.{option_map_or}
use Rattle.land_core.specs.Register.{object_at}
use Rattle.land_core.specs.declared.kind.Kind.{Kind}
use Rattle.land_core.specs.declared.object.Object.{Object}
use Rattle.land_core.specs.declared.object.Object.TheVariants as object
use Rattle.land_core.specs.declared.register.Register.{Register}
use Rattle.land_keep.specs.Sheets.{name_at}
use Rattle.land_keep.specs.declared.named.NamedObject.{NamedObject}

-- the list form of an object: a party without its members and roles
abbrev pub list_form : Object → Object
list_form (object.Party it) =
    object.Party (record { number = it.number; kind = it.kind; name = it.name; members = []; roles = [] })
list_form (object.Unit it) = object.Unit it
list_form (object.Parcel it) = object.Parcel it
list_form (object.Rrr it) = object.Rrr it
list_form (object.Source it) = object.Source it
list_form (object.Mutation it) = object.Mutation it

-- the name in the row of an object: that of the party of an entry; empty for another object
abbrev pub party_name_beside : Register → Object → List ℕ
party_name_beside r (object.Party it) = []
party_name_beside r (object.Unit it) = []
party_name_beside r (object.Parcel it) = []
party_name_beside r (object.Rrr it) = name_at r it.party
party_name_beside r (object.Source it) = []
party_name_beside r (object.Mutation it) = []

abbrev pub named_object : Register → Object → NamedObject
named_object r it = record { object = list_form it; name = party_name_beside r it }

-- the object of a number, if it exists
abbrev pub named_at : Register → Kind → (number : ℕ) → List NamedObject
named_at r k number = option_map_or (λ it. named_object r it ∷ []) (object_at r k number) []

-- the objects of these numbers that exist, in the order of the numbers
abbrev pub objects_at : Register → Kind → (numbers : List ℕ) → List NamedObject
objects_at r k numbers = flat_map (named_at r k) numbers
