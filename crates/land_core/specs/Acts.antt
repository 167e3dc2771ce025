-- Acts and requests within the limits of their fields.
use Rattle.std.specs.Prelude.{ℕ, Bool, true, List, length, nat_le, ◌&&◌}
use Rattle.std.specs.List.{list_all, list_any}
use Rattle.land_core.specs.Contents.{is_well_formed_content}
use Rattle.land_core.specs.Members.{is_group_size}
use Rattle.land_core.specs.Numbers.{is_number}
use Rattle.land_core.specs.Register.{is_single}
use Rattle.land_core.specs.Texts.{is_name, is_title, are_words, is_label, is_reference}
use Rattle.land_core.specs.Units.{is_type}
use Rattle.land_core.specs.declared.act.Act.{Act}
use Rattle.land_core.specs.declared.act.Act.TheVariants.{Enrol, Group, Regroup, Grant, Revoke, Mandate}
use Rattle.land_core.specs.declared.act.Act.TheVariants.{Withdraw, Register, Burden as ActBurden}
use Rattle.land_core.specs.declared.act.Act.TheVariants.{Lift as ActLift, Lodge, Approve, Refuse}
use Rattle.land_core.specs.declared.act.Burden.{Burden}
use Rattle.land_core.specs.declared.act.Lodging.{Lodging}
use Rattle.land_core.specs.declared.act.NewParcel.{NewParcel}
use Rattle.land_core.specs.declared.act.NewRight.{NewRight}
use Rattle.land_core.specs.declared.act.NewUnit.{NewUnit}
use Rattle.land_core.specs.declared.ask.Ask.{Ask}
use Rattle.land_core.specs.declared.ask.Ask.TheVariants.{View, List as AskList, Sheet, Do}
use Rattle.land_core.specs.declared.ask.Request.{Request}
use Rattle.land_core.specs.declared.member.Member.{Member}
use Rattle.land_core.specs.declared.rrr.RightType.TheVariants.{Ownership}

-- a registration has 1 to 64 parcels and 1 to 64 rights
abbrev pub is_first_count : ℕ → Bool
is_first_count count = nat_le 1 count && nat_le count 64

-- each member has a valid number
abbrev pub have_numbers : List Member → Bool
have_numbers members = list_all (λ member. is_number member.party) members

-- a group has 2 to 64 members, each with a valid number
abbrev pub are_members : List Member → Bool
are_members members = is_group_size (length members) && have_numbers members

-- each parcel has a valid label
abbrev pub have_labels : List NewParcel → Bool
have_labels parcels = list_all (λ parcel. is_label parcel.label) parcels

-- a unit is registered with 1 to 64 parcels, each with a valid label
abbrev pub are_parcels : List NewParcel → Bool
are_parcels parcels = is_first_count (length parcels) && have_labels parcels

-- each right belongs to a party with a valid number
abbrev pub have_parties : List NewRight → Bool
have_parties rights = list_all (λ right. is_number right.party) rights

abbrev pub have_owner : List NewRight → Bool
have_owner rights = list_any (λ right. is_type right.right_type Ownership) rights

-- a unit is registered with 1 to 64 rights, each of a party with a valid number, at least one an ownership
abbrev pub are_rights : List NewRight → Bool
are_rights rights = is_first_count (length rights) && have_parties rights && have_owner rights

-- a new unit has a valid name, document, parcels and rights
abbrev pub is_new_unit : NewUnit → Bool
is_new_unit it = is_name it.name && is_title it.document && are_parcels it.parcels && are_rights it.rights

-- a burden has a valid unit, party, wording and document
abbrev pub is_burden : Burden → Bool
is_burden it = is_number it.unit && is_number it.party && are_words it.words && is_title it.document

-- a lodging has a valid reference, document and content
abbrev pub is_lodging : Lodging → Bool
is_lodging it = is_reference it.reference && is_title it.document && is_well_formed_content it.content

-- each field of an act is within its limits; only a single party is enrolled
abbrev pub is_well_formed : Act → Bool
is_well_formed (Enrol it) = is_single it.kind && is_name it.name
is_well_formed (Group it) = is_name it.name && are_members it.members
is_well_formed (Regroup it) = is_number it.group && are_members it.members
is_well_formed (Grant it) = is_number it.party
is_well_formed (Revoke it) = is_number it.party
is_well_formed (Mandate it) = is_number it.agent
is_well_formed (Withdraw it) = is_number it.principal && is_number it.agent
is_well_formed (Register it) = is_new_unit it
is_well_formed (ActBurden it) = is_burden it
is_well_formed (ActLift it) = is_number it.rrr
is_well_formed (Lodge it) = is_lodging it
is_well_formed (Approve it) = is_number it.mutation
is_well_formed (Refuse it) = is_number it.mutation

-- a read has no limits; if the object does not exist, it is denied
abbrev pub is_well_formed_ask : Ask → Bool
is_well_formed_ask (View k number at) = true
is_well_formed_ask (AskList k at) = true
is_well_formed_ask (Sheet unit at) = true
is_well_formed_ask (Do it) = is_well_formed it

abbrev pub is_well_formed_request : Request → Bool
is_well_formed_request request = is_well_formed_ask request.ask
