-- A text determines its object, and its content.
use Rattle.std.proofs.Common.{◌≡◌, ◌≤◌, ℕ, ℤ, List, [], ◌∷◌, Bool, true, ◌==◌, cond, length, Option, Some, None, refl, sym, ap, ◌∙◌, arith}
use Rattle.std.specs.List.{AllByRecursion}
use Rattle.std.specs.Prelude.{⊤}
use Rattle.land_core.specs.Words.{party_word, right_word, role_word, source_word, state_word}
use Rattle.land_core.specs.declared.act.NewParcel.{NewParcel}
use Rattle.land_core.specs.declared.content.Content.{Content}
use Rattle.land_core.specs.declared.content.Content.TheVariants as content
use Rattle.land_core.specs.declared.content.Discharge.{Discharge}
use Rattle.land_core.specs.declared.content.Mortgage as wanted
use Rattle.land_core.specs.declared.content.Transfer.{Transfer}
use Rattle.land_core.specs.declared.kind.PartyKind.{PartyKind}
use Rattle.land_core.specs.declared.kind.PartyKind.TheVariants as kind
use Rattle.land_core.specs.declared.member.Member.{Member}
use Rattle.land_core.specs.declared.merger.Merger.{Merger}
use Rattle.land_core.specs.declared.mutation.Mutation.{Mutation}
use Rattle.land_core.specs.declared.mutation.MutationState.{MutationState}
use Rattle.land_core.specs.declared.mutation.MutationState.TheVariants as state
use Rattle.land_core.specs.declared.object.Object.{Object}
use Rattle.land_core.specs.declared.object.Object.TheVariants as shown
use Rattle.land_core.specs.declared.parcel.Parcel.{Parcel}
use Rattle.land_core.specs.declared.party.Party.{Party}
use Rattle.land_core.specs.declared.role.Role.{Role}
use Rattle.land_core.specs.declared.role.Role.TheVariants as role
use Rattle.land_core.specs.declared.rrr.Class.{Class}
use Rattle.land_core.specs.declared.rrr.Class.TheVariants.{Right, Restriction, Responsibility, Mortgage}
use Rattle.land_core.specs.declared.rrr.RightType.{RightType}
use Rattle.land_core.specs.declared.rrr.RightType.TheVariants.{Ownership, Lease, Usufruct}
use Rattle.land_core.specs.declared.rrr.Rrr.{Rrr}
use Rattle.land_core.specs.declared.source.Source.{Source}
use Rattle.land_core.specs.declared.source.SourceKind.{SourceKind}
use Rattle.land_core.specs.declared.source.SourceKind.TheVariants.{Administrative, Spatial}
use Rattle.land_core.specs.declared.subdivision.Part.{Part}
use Rattle.land_core.specs.declared.subdivision.Subdivision.{Subdivision}
use Rattle.land_core.specs.declared.unit.Unit.{Unit}
use Rattle.land_fraction.specs.Ratio.{Ratio}
use Rattle.land_shape.specs.Laws.{PrintedLaw}
use Rattle.land_shape.specs.Place.{Place}
use Rattle.land_wire_json.proofs.CompactTexts.{reads_compact}
use Rattle.land_wire_json.proofs.ExactTexts.{content_is_exact, content_depth, object_is_exact, object_depth}
use Rattle.land_wire_json.proofs.SameFields.{fields_in, at, lengths, number_in, text_in, truth_in, items_in, apart, same_list, same_numbers, same_word, same_moment, same_share, same_outline}
use Rattle.land_wire_json.specs.Texts.Exact.{is_exact}
use Rattle.land_wire_json.specs.Texts.Limits.{IsTransferWithin, IsPartWithin, IsSubdivisionWithin, IsMergerWithin, IsContentWithin, IsMemberWithin, IsPartyWithin, IsParcelWithin, IsClassWithin, IsMutationWithin, IsObjectWithin}
use Rattle.land_wire_json.specs.Texts.Mergers.{merger_data}
use Rattle.land_wire_json.specs.Texts.Mutations.{transfer_data, mortgage_data, discharge_data, content_data, content_text, mutation_data}
use Rattle.land_wire_json.specs.Texts.Objects.{object_data, object_text}
use Rattle.land_wire_json.specs.Texts.Parcels.{parcel_data}
use Rattle.land_wire_json.specs.Texts.Parties.{role_data, member_data, party_data}
use Rattle.land_wire_json.specs.Texts.Rrrs.{class_data}
use Rattle.land_wire_json.specs.Texts.Sources.{source_data}
use Rattle.land_wire_json.specs.Texts.Subdivisions.{first_data, name_members, part_data, subdivision_data}
use Rattle.land_wire_json.specs.Texts.Units.{unit_data}
use Rattle.serde_json.specs.Data.{Data, Members, no_members, member, depth}
use Rattle.serde_json.specs.Read.{read, max_depth}
use Rattle.serde_json.specs.Written.{compact_text}

-- a compact text determines its JSON, if the JSON is exact and not too deep
same_some : (a b : Data) → Some a ≡ Some b → a ≡ b
same_some a b e = cc

pub same_data : (a b : Data) → is_exact a ≡ true → is_exact b ≡ true → depth a ≤ max_depth → depth b ≤ max_depth → compact_text a ≡ compact_text b → a ≡ b
same_data a b e f m n same = same_some a b (sym (reads_compact a e m) ∙ ap read same ∙ reads_compact b f n)

-- ---- words

abbrev kind_back : ℕ → PartyKind
kind_back n = cond (n == 13) kind.NaturalPerson (cond (n == 16) kind.NonNaturalPerson kind.Group)

kind_told : (k : PartyKind) → kind_back (length (party_word k)) ≡ k
kind_told kind.NaturalPerson = refl
kind_told kind.NonNaturalPerson = refl
kind_told kind.Group = refl

abbrev role_back : ℕ → Role
role_back n =
    cond (n == 7) role.Citizen (cond (n == 11) role.Conveyancer (cond (n == 6) role.Notary (cond (n == 4) role.Bank
    (cond (n == 17) role.CertifiedSurveyor role.StateAdministrator))))

role_told : (r : Role) → role_back (length (role_word r)) ≡ r
role_told role.Citizen = refl
role_told role.Conveyancer = refl
role_told role.Notary = refl
role_told role.Bank = refl
role_told role.CertifiedSurveyor = refl
role_told role.StateAdministrator = refl

abbrev right_back : ℕ → RightType
right_back n = cond (n == 9) Ownership (cond (n == 5) Lease Usufruct)

right_told : (t : RightType) → right_back (length (right_word t)) ≡ t
right_told Ownership = refl
right_told Lease = refl
right_told Usufruct = refl

abbrev source_back : ℕ → SourceKind
source_back n = cond (n == 14) Administrative Spatial

source_told : (k : SourceKind) → source_back (length (source_word k)) ≡ k
source_told Administrative = refl
source_told Spatial = refl

abbrev state_back : ℕ → MutationState
state_back n = cond (n == 6) state.Lodged (cond (n == 8) state.Approved state.Refused)

state_told : (s : MutationState) → state_back (length (state_word s)) ≡ s
state_told state.Lodged = refl
state_told state.Approved = refl
state_told state.Refused = refl

-- ---- contents of mutations

abbrev transfer_of : ℕ → ℕ → ℕ → Ratio → Transfer
transfer_of x0 x1 x2 x3 = record { unit = x0; right = x1; receiver = x2; share = x3 }

transfer_by : (x0 y0 : ℕ) (x1 y1 : ℕ) (x2 y2 : ℕ) (x3 y3 : Ratio)
    → x0 ≡ y0 → x1 ≡ y1 → x2 ≡ y2 → x3 ≡ y3
    → transfer_of x0 x1 x2 x3 ≡ transfer_of y0 y1 y2 y3
transfer_by x0 y0 x1 y1 x2 y2 x3 y3 e0 e1 e2 e3 = rw (e0, e1, e2, e3) refl

same_transfer : (a b : Transfer) → IsTransferWithin a → IsTransferWithin b → transfer_data a ≡ transfer_data b → a ≡ b
same_transfer a b h k e =
    transfer_by a.unit b.unit a.right b.right a.receiver b.receiver a.share b.share
    (ap (λ (d : Data). number_in (at 3 d)) e) (ap (λ (d : Data). number_in (at 1 d)) e) (ap (λ (d : Data). number_in (at 0 d)) e)
    (same_share a.share b.share h.share k.share (ap (λ (d : Data). text_in (at 2 d)) e))

abbrev mortgage_of : ℕ → ℕ → ℕ → List ℕ → wanted.Mortgage
mortgage_of x0 x1 x2 x3 = record { unit = x0; creditor = x1; amount = x2; currency = x3 }

mortgage_by : (x0 y0 : ℕ) (x1 y1 : ℕ) (x2 y2 : ℕ) (x3 y3 : List ℕ)
    → x0 ≡ y0 → x1 ≡ y1 → x2 ≡ y2 → x3 ≡ y3
    → mortgage_of x0 x1 x2 x3 ≡ mortgage_of y0 y1 y2 y3
mortgage_by x0 y0 x1 y1 x2 y2 x3 y3 e0 e1 e2 e3 = rw (e0, e1, e2, e3) refl

same_mortgage : (a b : wanted.Mortgage) → mortgage_data a ≡ mortgage_data b → a ≡ b
same_mortgage a b e =
    mortgage_by a.unit b.unit a.creditor b.creditor a.amount b.amount a.currency b.currency
    (ap (λ (d : Data). number_in (at 3 d)) e) (ap (λ (d : Data). number_in (at 1 d)) e) (ap (λ (d : Data). number_in (at 0 d)) e) (ap (λ (d : Data). text_in (at 2 d)) e)

abbrev discharge_of : ℕ → ℕ → Discharge
discharge_of x0 x1 = record { unit = x0; mortgage = x1 }

discharge_by : (x0 y0 : ℕ) (x1 y1 : ℕ)
    → x0 ≡ y0 → x1 ≡ y1
    → discharge_of x0 x1 ≡ discharge_of y0 y1
discharge_by x0 y0 x1 y1 e0 e1 = rw (e0, e1) refl

same_discharge : (a b : Discharge) → discharge_data a ≡ discharge_data b → a ≡ b
same_discharge a b e = discharge_by a.unit b.unit a.mortgage b.mortgage (ap (λ (d : Data). number_in (at 1 d)) e) (ap (λ (d : Data). number_in (at 0 d)) e)

abbrev merger_of : ℕ → List ℕ → List ℕ → List ℕ → List Place → Merger
merger_of x0 x1 x2 x3 x4 = record { unit = x0; others = x1; parcels = x2; label = x3; outline = x4 }

merger_by : (x0 y0 : ℕ) (x1 y1 : List ℕ) (x2 y2 : List ℕ) (x3 y3 : List ℕ) (x4 y4 : List Place)
    → x0 ≡ y0 → x1 ≡ y1 → x2 ≡ y2 → x3 ≡ y3 → x4 ≡ y4
    → merger_of x0 x1 x2 x3 x4 ≡ merger_of y0 y1 y2 y3 y4
merger_by x0 y0 x1 y1 x2 y2 x3 y3 x4 y4 e0 e1 e2 e3 e4 = rw (e0, e1, e2, e3, e4) refl

same_merger : PrintedLaw → (a b : Merger) → IsMergerWithin a → IsMergerWithin b → merger_data a ≡ merger_data b → a ≡ b
same_merger printing a b h k e =
    merger_by a.unit b.unit a.others b.others a.parcels b.parcels a.label b.label a.outline b.outline
    (ap (λ (d : Data). number_in (at 4 d)) e)
    (same_numbers a.others b.others h.others k.others (ap (λ (d : Data). items_in (at 1 d)) e))
    (same_numbers a.parcels b.parcels h.parcels k.parcels (ap (λ (d : Data). items_in (at 3 d)) e))
    (ap (λ (d : Data). text_in (at 0 d)) e)
    (same_outline printing a.outline b.outline h.outline k.outline (ap (λ (d : Data). text_in (at 2 d)) e))

abbrev part_of : List ℕ → List Place → Option (List ℕ) → Part
part_of x0 x1 x2 = record { label = x0; outline = x1; unit = x2 }

part_by : (x0 y0 : List ℕ) (x1 y1 : List Place) (x2 y2 : Option (List ℕ))
    → x0 ≡ y0 → x1 ≡ y1 → x2 ≡ y2
    → part_of x0 x1 x2 ≡ part_of y0 y1 y2
part_by x0 y0 x1 y1 x2 y2 e0 e1 e2 = rw (e0, e1, e2) refl

abbrev name_in : Members → Option (List ℕ)
name_in no_members = None
name_in (member k d ms) = Some (text_in d)

name_told : (name : Option (List ℕ)) → name_in (name_members name) ≡ name
name_told None = refl
name_told (Some name) = refl

abbrev after_one : Members → Members
after_one no_members = no_members
after_one (member k d ms) = ms

same_part : PrintedLaw → (a b : Part) → IsPartWithin a → IsPartWithin b → part_data a ≡ part_data b → a ≡ b
same_part printing a b h k e =
    part_by a.label b.label a.outline b.outline a.unit b.unit
    (ap (λ (d : Data). text_in (at 0 d)) e)
    (same_outline printing a.outline b.outline h k (ap (λ (d : Data). text_in (at 1 d)) e))
    (sym (name_told a.unit) ∙ ap (λ (d : Data). name_in (after_one (after_one (fields_in d)))) e ∙ name_told b.unit)

abbrev first_of : List ℕ → List Place → NewParcel
first_of x0 x1 = record { label = x0; outline = x1 }

first_by : (x0 y0 : List ℕ) (x1 y1 : List Place)
    → x0 ≡ y0 → x1 ≡ y1
    → first_of x0 x1 ≡ first_of y0 y1
first_by x0 y0 x1 y1 e0 e1 = rw (e0, e1) refl

abbrev subdivision_of : ℕ → ℕ → NewParcel → List Part → Subdivision
subdivision_of x0 x1 x2 x3 = record { unit = x0; parcel = x1; first = x2; rest = x3 }

subdivision_by : (x0 y0 : ℕ) (x1 y1 : ℕ) (x2 y2 : NewParcel) (x3 y3 : List Part)
    → x0 ≡ y0 → x1 ≡ y1 → x2 ≡ y2 → x3 ≡ y3
    → subdivision_of x0 x1 x2 x3 ≡ subdivision_of y0 y1 y2 y3
subdivision_by x0 y0 x1 y1 x2 y2 x3 y3 e0 e1 e2 e3 = rw (e0, e1, e2, e3) refl

same_subdivision : PrintedLaw → (a b : Subdivision) → IsSubdivisionWithin a → IsSubdivisionWithin b → subdivision_data a ≡ subdivision_data b → a ≡ b
same_subdivision printing a b h k e =
    let first : first_data a.first ≡ first_data b.first = (ap (λ (d : Data). at 0 d) e) in
    subdivision_by a.unit b.unit a.parcel b.parcel a.first b.first a.rest b.rest
    (ap (λ (d : Data). number_in (at 3 d)) e) (ap (λ (d : Data). number_in (at 1 d)) e)
    (first_by a.first.label b.first.label a.first.outline b.first.outline (ap (λ (d : Data). text_in (at 0 d)) first)
    (same_outline printing a.first.outline b.first.outline h.first k.first (ap (λ (d : Data). text_in (at 1 d)) first)))
    (same_list part_data IsPartWithin (same_part printing) a.rest b.rest h.rest k.rest (ap (λ (d : Data). items_in (at 2 d)) e))

abbrev content_lengths : Content → ℕ
content_lengths (content.Transfer it) = 855
content_lengths (content.Subdivision it) = 564
content_lengths (content.Merger it) = 567
content_lengths (content.Mortgage it) = 688
content_lengths (content.Discharge it) = 840

content_lengths_are : (it : Content) → lengths (content_data it) ≡ content_lengths it
content_lengths_are (content.Transfer it) = refl
content_lengths_are (content.Subdivision it) = refl
content_lengths_are (content.Merger it) = refl
content_lengths_are (content.Mortgage it) = refl
content_lengths_are (content.Discharge it) = refl

contents_by : PrintedLaw → (a b : Content) → IsContentWithin a → IsContentWithin b → content_data a ≡ content_data b → content_lengths a ≡ content_lengths b → a ≡ b
contents_by printing (content.Transfer a) (content.Transfer b) h k e f = ap content.Transfer (same_transfer a b h k e)
contents_by printing (content.Transfer a) (content.Subdivision b) h k e f = absurd (apart 855 564 f refl)
contents_by printing (content.Transfer a) (content.Merger b) h k e f = absurd (apart 855 567 f refl)
contents_by printing (content.Transfer a) (content.Mortgage b) h k e f = absurd (apart 855 688 f refl)
contents_by printing (content.Transfer a) (content.Discharge b) h k e f = absurd (apart 855 840 f refl)
contents_by printing (content.Subdivision a) (content.Transfer b) h k e f = absurd (apart 564 855 f refl)
contents_by printing (content.Subdivision a) (content.Subdivision b) h k e f = ap content.Subdivision (same_subdivision printing a b h k e)
contents_by printing (content.Subdivision a) (content.Merger b) h k e f = absurd (apart 564 567 f refl)
contents_by printing (content.Subdivision a) (content.Mortgage b) h k e f = absurd (apart 564 688 f refl)
contents_by printing (content.Subdivision a) (content.Discharge b) h k e f = absurd (apart 564 840 f refl)
contents_by printing (content.Merger a) (content.Transfer b) h k e f = absurd (apart 567 855 f refl)
contents_by printing (content.Merger a) (content.Subdivision b) h k e f = absurd (apart 567 564 f refl)
contents_by printing (content.Merger a) (content.Merger b) h k e f = ap content.Merger (same_merger printing a b h k e)
contents_by printing (content.Merger a) (content.Mortgage b) h k e f = absurd (apart 567 688 f refl)
contents_by printing (content.Merger a) (content.Discharge b) h k e f = absurd (apart 567 840 f refl)
contents_by printing (content.Mortgage a) (content.Transfer b) h k e f = absurd (apart 688 855 f refl)
contents_by printing (content.Mortgage a) (content.Subdivision b) h k e f = absurd (apart 688 564 f refl)
contents_by printing (content.Mortgage a) (content.Merger b) h k e f = absurd (apart 688 567 f refl)
contents_by printing (content.Mortgage a) (content.Mortgage b) h k e f = ap content.Mortgage (same_mortgage a b e)
contents_by printing (content.Mortgage a) (content.Discharge b) h k e f = absurd (apart 688 840 f refl)
contents_by printing (content.Discharge a) (content.Transfer b) h k e f = absurd (apart 840 855 f refl)
contents_by printing (content.Discharge a) (content.Subdivision b) h k e f = absurd (apart 840 564 f refl)
contents_by printing (content.Discharge a) (content.Merger b) h k e f = absurd (apart 840 567 f refl)
contents_by printing (content.Discharge a) (content.Mortgage b) h k e f = absurd (apart 840 688 f refl)
contents_by printing (content.Discharge a) (content.Discharge b) h k e f = ap content.Discharge (same_discharge a b e)

same_content : PrintedLaw → (a b : Content) → IsContentWithin a → IsContentWithin b → content_data a ≡ content_data b → a ≡ b
same_content printing a b h k e = contents_by printing a b h k e (sym (content_lengths_are a) ∙ ap lengths e ∙ content_lengths_are b)

pub contents_are_told : PrintedLaw → (a b : Content) → IsContentWithin a → IsContentWithin b → content_text a ≡ content_text b → a ≡ b
contents_are_told printing a b h k e =
    let deep_a : depth (content_data a) ≤ max_depth = omega (arith, content_depth a) in
    let deep_b : depth (content_data b) ≤ max_depth = omega (arith, content_depth b) in
    same_content printing a b h k (same_data (content_data a) (content_data b) (content_is_exact a h) (content_is_exact b k) deep_a deep_b e)

-- ---- objects

abbrev unit_of : ℕ → List ℕ → Bool → Unit
unit_of x0 x1 x2 = record { number = x0; name = x1; checked = x2 }

unit_by : (x0 y0 : ℕ) (x1 y1 : List ℕ) (x2 y2 : Bool)
    → x0 ≡ y0 → x1 ≡ y1 → x2 ≡ y2
    → unit_of x0 x1 x2 ≡ unit_of y0 y1 y2
unit_by x0 y0 x1 y1 x2 y2 e0 e1 e2 = rw (e0, e1, e2) refl

same_unit : (a b : Unit) → unit_data a ≡ unit_data b → a ≡ b
same_unit a b e = unit_by a.number b.number a.name b.name a.checked b.checked (ap (λ (d : Data). number_in (at 2 d)) e) (ap (λ (d : Data). text_in (at 1 d)) e) (ap (λ (d : Data). truth_in (at 0 d)) e)

abbrev parcel_of : ℕ → ℕ → List ℕ → List Place → ℕ → Parcel
parcel_of x0 x1 x2 x3 x4 = record { number = x0; unit = x1; label = x2; outline = x3; source = x4 }

parcel_by : (x0 y0 : ℕ) (x1 y1 : ℕ) (x2 y2 : List ℕ) (x3 y3 : List Place) (x4 y4 : ℕ)
    → x0 ≡ y0 → x1 ≡ y1 → x2 ≡ y2 → x3 ≡ y3 → x4 ≡ y4
    → parcel_of x0 x1 x2 x3 x4 ≡ parcel_of y0 y1 y2 y3 y4
parcel_by x0 y0 x1 y1 x2 y2 x3 y3 x4 y4 e0 e1 e2 e3 e4 = rw (e0, e1, e2, e3, e4) refl

same_parcel : PrintedLaw → (a b : Parcel) → IsParcelWithin a → IsParcelWithin b → parcel_data a ≡ parcel_data b → a ≡ b
same_parcel printing a b h k e =
    parcel_by a.number b.number a.unit b.unit a.label b.label a.outline b.outline a.source b.source
    (ap (λ (d : Data). number_in (at 2 d)) e) (ap (λ (d : Data). number_in (at 5 d)) e) (ap (λ (d : Data). text_in (at 1 d)) e)
    (same_outline printing a.outline b.outline h.outline k.outline (ap (λ (d : Data). text_in (at 3 d)) e)) (ap (λ (d : Data). number_in (at 4 d)) e)

abbrev member_of : ℕ → Ratio → Member
member_of x0 x1 = record { party = x0; share = x1 }

member_by : (x0 y0 : ℕ) (x1 y1 : Ratio)
    → x0 ≡ y0 → x1 ≡ y1
    → member_of x0 x1 ≡ member_of y0 y1
member_by x0 y0 x1 y1 e0 e1 = rw (e0, e1) refl

same_member : (a b : Member) → IsMemberWithin a → IsMemberWithin b → member_data a ≡ member_data b → a ≡ b
same_member a b h k e = member_by a.party b.party a.share b.share (ap (λ (d : Data). number_in (at 0 d)) e) (same_share a.share b.share h.share k.share (ap (λ (d : Data). text_in (at 1 d)) e))

any_roles : (rs : List Role) → AllByRecursion (λ r. ⊤) rs
any_roles [] = tt
any_roles (r ∷ rs) = (tt, any_roles rs)

same_role : (r s : Role) → role_data r ≡ role_data s → r ≡ s
same_role r s e = same_word role_word role_back role_told r s (ap text_in e)

abbrev party_of : ℕ → PartyKind → List ℕ → List Member → List Role → Party
party_of x0 x1 x2 x3 x4 = record { number = x0; kind = x1; name = x2; members = x3; roles = x4 }

party_by : (x0 y0 : ℕ) (x1 y1 : PartyKind) (x2 y2 : List ℕ) (x3 y3 : List Member) (x4 y4 : List Role)
    → x0 ≡ y0 → x1 ≡ y1 → x2 ≡ y2 → x3 ≡ y3 → x4 ≡ y4
    → party_of x0 x1 x2 x3 x4 ≡ party_of y0 y1 y2 y3 y4
party_by x0 y0 x1 y1 x2 y2 x3 y3 x4 y4 e0 e1 e2 e3 e4 = rw (e0, e1, e2, e3, e4) refl

same_party : (a b : Party) → IsPartyWithin a → IsPartyWithin b → party_data a ≡ party_data b → a ≡ b
same_party a b h k e =
    party_by a.number b.number a.kind b.kind a.name b.name a.members b.members a.roles b.roles
    (ap (λ (d : Data). number_in (at 3 d)) e)
    (same_word party_word kind_back kind_told a.kind b.kind (ap (λ (d : Data). text_in (at 0 d)) e))
    (ap (λ (d : Data). text_in (at 2 d)) e)
    (same_list member_data IsMemberWithin same_member a.members b.members h.members k.members (ap (λ (d : Data). items_in (at 1 d)) e))
    (same_list role_data (λ r. ⊤) (λ r s h k e. same_role r s e) a.roles b.roles (any_roles a.roles) (any_roles b.roles) (ap (λ (d : Data). items_in (at 4 d)) e))

abbrev source_of : ℕ → SourceKind → List ℕ → Source
source_of x0 x1 x2 = record { number = x0; kind = x1; title = x2 }

source_by : (x0 y0 : ℕ) (x1 y1 : SourceKind) (x2 y2 : List ℕ)
    → x0 ≡ y0 → x1 ≡ y1 → x2 ≡ y2
    → source_of x0 x1 x2 ≡ source_of y0 y1 y2
source_by x0 y0 x1 y1 x2 y2 e0 e1 e2 = rw (e0, e1, e2) refl

same_source : (a b : Source) → source_data a ≡ source_data b → a ≡ b
same_source a b e = source_by a.number b.number a.kind b.kind a.title b.title (ap (λ (d : Data). number_in (at 1 d)) e) (same_word source_word source_back source_told a.kind b.kind (ap (λ (d : Data). text_in (at 0 d)) e)) (ap (λ (d : Data). text_in (at 2 d)) e)

-- ---- entries

abbrev entry_of : ℕ → ℕ → ℕ → Class → ℕ → Rrr
entry_of number unit party class source = record { number = number; unit = unit; party = party; class = class; source = source }

entry_by : (x0 y0 : ℕ) (x1 y1 : ℕ) (x2 y2 : ℕ) (x3 y3 : Class) (x4 y4 : ℕ)
    → x0 ≡ y0 → x1 ≡ y1 → x2 ≡ y2 → x3 ≡ y3 → x4 ≡ y4
    → entry_of x0 x1 x2 x3 x4 ≡ entry_of y0 y1 y2 y3 y4
entry_by x0 y0 x1 y1 x2 y2 x3 y3 x4 y4 e0 e1 e2 e3 e4 = rw (e0, e1, e2, e3, e4) refl

-- of a right, a restriction, a responsibility, a mortgage
abbrev class_number : Class → ℕ
class_number (Right type share) = 1
class_number (Restriction words) = 2
class_number (Responsibility words) = 3
class_number (Mortgage amount currency rank) = 4

abbrev by_length : ℕ → ℕ
by_length n = cond (n == 11) 2 (cond (n == 14) 3 1)

abbrev class_in : Data → ℕ
class_in d = cond (lengths d == 658) 4 (by_length (length (text_in (at 0 d))))

class_is : (entry : Rrr) (class : Class) → class_in (class_data entry class) ≡ class_number class
class_is entry (Right Ownership share) = refl
class_is entry (Right Lease share) = refl
class_is entry (Right Usufruct share) = refl
class_is entry (Restriction words) = refl
class_is entry (Responsibility words) = refl
class_is entry (Mortgage amount currency rank) = refl

right_by : (t u : RightType) (f g : Ratio) → t ≡ u → f ≡ g → Right t f ≡ Right u g
right_by t u f g p q = rw (p, q) refl

class_mortgage_by : (a b : ℕ) (s t : List ℕ) (c d : ℕ) → a ≡ b → s ≡ t → c ≡ d → Mortgage a s c ≡ Mortgage b t d
class_mortgage_by a b s t c d p q r = rw (p, q, r) refl

module _ (a b : Rrr) where
  right_entry : (t u : RightType) (f g : Ratio) → IsClassWithin (Right t f) → IsClassWithin (Right u g)
      → class_data a (Right t f) ≡ class_data b (Right u g) → entry_of a.number a.unit a.party (Right t f) a.source ≡ entry_of b.number b.unit b.party (Right u g) b.source
  right_entry t u f g h k e =
      entry_by a.number b.number a.unit b.unit a.party b.party (Right t f) (Right u g) a.source b.source
      (ap (λ (d : Data). number_in (at 1 d)) e) (ap (λ (d : Data). number_in (at 5 d)) e) (ap (λ (d : Data). number_in (at 2 d)) e)
      (right_by t u f g (same_word right_word right_back right_told t u (ap (λ (d : Data). text_in (at 0 d)) e)) (same_share f g h k (ap (λ (d : Data). text_in (at 3 d)) e)))
      (ap (λ (d : Data). number_in (at 4 d)) e)

  restriction_entry : (s t : List ℕ) → class_data a (Restriction s) ≡ class_data b (Restriction t)
      → entry_of a.number a.unit a.party (Restriction s) a.source ≡ entry_of b.number b.unit b.party (Restriction t) b.source
  restriction_entry s t e =
      entry_by a.number b.number a.unit b.unit a.party b.party (Restriction s) (Restriction t) a.source b.source
      (ap (λ (d : Data). number_in (at 1 d)) e) (ap (λ (d : Data). number_in (at 4 d)) e) (ap (λ (d : Data). number_in (at 2 d)) e) (ap Restriction (ap (λ (d : Data). text_in (at 5 d)) e)) (ap (λ (d : Data). number_in (at 3 d)) e)

  responsibility_entry : (s t : List ℕ) → class_data a (Responsibility s) ≡ class_data b (Responsibility t)
      → entry_of a.number a.unit a.party (Responsibility s) a.source ≡ entry_of b.number b.unit b.party (Responsibility t) b.source
  responsibility_entry s t e =
      entry_by a.number b.number a.unit b.unit a.party b.party (Responsibility s) (Responsibility t) a.source b.source
      (ap (λ (d : Data). number_in (at 1 d)) e) (ap (λ (d : Data). number_in (at 4 d)) e) (ap (λ (d : Data). number_in (at 2 d)) e) (ap Responsibility (ap (λ (d : Data). text_in (at 5 d)) e)) (ap (λ (d : Data). number_in (at 3 d)) e)

  mortgage_entry : (m n : ℕ) (s t : List ℕ) (r q : ℕ) → class_data a (Mortgage m s r) ≡ class_data b (Mortgage n t q)
      → entry_of a.number a.unit a.party (Mortgage m s r) a.source ≡ entry_of b.number b.unit b.party (Mortgage n t q) b.source
  mortgage_entry m n s t r q e =
      entry_by a.number b.number a.unit b.unit a.party b.party (Mortgage m s r) (Mortgage n t q) a.source b.source
      (ap (λ (d : Data). number_in (at 3 d)) e) (ap (λ (d : Data). number_in (at 7 d)) e) (ap (λ (d : Data). number_in (at 4 d)) e) (class_mortgage_by m n s t r q (ap (λ (d : Data). number_in (at 0 d)) e) (ap (λ (d : Data). text_in (at 2 d)) e) (ap (λ (d : Data). number_in (at 5 d)) e)) (ap (λ (d : Data). number_in (at 6 d)) e)

  entries_by : (c d : Class) → IsClassWithin c → IsClassWithin d → class_data a c ≡ class_data b d → class_number c ≡ class_number d
      → entry_of a.number a.unit a.party c a.source ≡ entry_of b.number b.unit b.party d b.source
  entries_by (Right type share) (Right kind part) h k e f = right_entry type kind share part h k e
  entries_by (Right type share) (Restriction others) h k e f = absurd (apart 1 2 f refl)
  entries_by (Right type share) (Responsibility others) h k e f = absurd (apart 1 3 f refl)
  entries_by (Right type share) (Mortgage sum coin order) h k e f = absurd (apart 1 4 f refl)
  entries_by (Restriction words) (Right kind part) h k e f = absurd (apart 2 1 f refl)
  entries_by (Restriction words) (Restriction others) h k e f = restriction_entry words others e
  entries_by (Restriction words) (Responsibility others) h k e f = absurd (apart 2 3 f refl)
  entries_by (Restriction words) (Mortgage sum coin order) h k e f = absurd (apart 2 4 f refl)
  entries_by (Responsibility words) (Right kind part) h k e f = absurd (apart 3 1 f refl)
  entries_by (Responsibility words) (Restriction others) h k e f = absurd (apart 3 2 f refl)
  entries_by (Responsibility words) (Responsibility others) h k e f = responsibility_entry words others e
  entries_by (Responsibility words) (Mortgage sum coin order) h k e f = absurd (apart 3 4 f refl)
  entries_by (Mortgage amount currency rank) (Right kind part) h k e f = absurd (apart 4 1 f refl)
  entries_by (Mortgage amount currency rank) (Restriction others) h k e f = absurd (apart 4 2 f refl)
  entries_by (Mortgage amount currency rank) (Responsibility others) h k e f = absurd (apart 4 3 f refl)
  entries_by (Mortgage amount currency rank) (Mortgage sum coin order) h k e f = mortgage_entry amount sum currency coin rank order e

same_entry : (a b : Rrr) → IsClassWithin a.class → IsClassWithin b.class → class_data a a.class ≡ class_data b b.class → a ≡ b
same_entry a b h k e = entries_by a b a.class b.class h k e (sym (class_is a a.class) ∙ ap class_in e ∙ class_is b b.class)

-- ---- mutations

abbrev mutation_of : ℕ → ℕ → List ℕ → ℕ → ℤ → MutationState → Content → Mutation
mutation_of number lodger reference source lodged state content = record { number = number; lodger = lodger; reference = reference; source = source; lodged = lodged; state = state; content = content }

mutation_by : (x0 y0 : ℕ) (x1 y1 : ℕ) (x2 y2 : List ℕ) (x3 y3 : ℕ) (x4 y4 : ℤ) (x5 y5 : MutationState) (x6 y6 : Content)
    → x0 ≡ y0 → x1 ≡ y1 → x2 ≡ y2 → x3 ≡ y3 → x4 ≡ y4 → x5 ≡ y5 → x6 ≡ y6
    → mutation_of x0 x1 x2 x3 x4 x5 x6 ≡ mutation_of y0 y1 y2 y3 y4 y5 y6
mutation_by x0 y0 x1 y1 x2 y2 x3 y3 x4 y4 x5 y5 x6 y6 e0 e1 e2 e3 e4 e5 e6 = rw (e0, e1, e2, e3, e4, e5, e6) refl

same_mutation : PrintedLaw → (a b : Mutation) → IsMutationWithin a → IsMutationWithin b → mutation_data a ≡ mutation_data b → a ≡ b
same_mutation printing a b h k e =
    mutation_by a.number b.number a.lodger b.lodger a.reference b.reference a.source b.source a.lodged b.lodged a.state b.state a.content b.content
    (ap (λ (d : Data). number_in (at 4 d)) e) (ap (λ (d : Data). number_in (at 3 d)) e) (ap (λ (d : Data). text_in (at 5 d)) e) (ap (λ (d : Data). number_in (at 6 d)) e)
    (same_moment a.lodged b.lodged h.lodged k.lodged (ap (λ (d : Data). at 2 d) e))
    (same_word state_word state_back state_told a.state b.state (ap (λ (d : Data). text_in (at 7 d)) e))
    (same_content printing a.content b.content h.content k.content (ap (λ (d : Data). at 1 d) e))

-- ---- all objects

abbrev object_lengths : Object → ℕ
object_lengths (shown.Party it) = 474
object_lengths (shown.Unit it) = 746
object_lengths (shown.Parcel it) = 756
object_lengths (shown.Rrr it) = 565
object_lengths (shown.Source it) = 465
object_lengths (shown.Mutation it) = 376

-- the keys of a mortgage differ from those of the other entries
abbrev entry_lengths : ℕ → ℕ
entry_lengths n = cond (n == 658) 565 n

class_lengths_are : (entry : Rrr) (class : Class) → entry_lengths (lengths (class_data entry class)) ≡ 565
class_lengths_are entry (Right type share) = refl
class_lengths_are entry (Restriction words) = refl
class_lengths_are entry (Responsibility words) = refl
class_lengths_are entry (Mortgage amount currency rank) = refl

object_lengths_are : (it : Object) → entry_lengths (lengths (object_data it)) ≡ object_lengths it
object_lengths_are (shown.Party it) = refl
object_lengths_are (shown.Unit it) = refl
object_lengths_are (shown.Parcel it) = refl
object_lengths_are (shown.Rrr it) = class_lengths_are it it.class
object_lengths_are (shown.Source it) = refl
object_lengths_are (shown.Mutation it) = refl

objects_by : PrintedLaw → (a b : Object) → IsObjectWithin a → IsObjectWithin b → object_data a ≡ object_data b → object_lengths a ≡ object_lengths b → a ≡ b
objects_by printing (shown.Party a) (shown.Party b) h k e f = ap shown.Party (same_party a b h k e)
objects_by printing (shown.Party a) (shown.Unit b) h k e f = absurd (apart 474 746 f refl)
objects_by printing (shown.Party a) (shown.Parcel b) h k e f = absurd (apart 474 756 f refl)
objects_by printing (shown.Party a) (shown.Rrr b) h k e f = absurd (apart 474 565 f refl)
objects_by printing (shown.Party a) (shown.Source b) h k e f = absurd (apart 474 465 f refl)
objects_by printing (shown.Party a) (shown.Mutation b) h k e f = absurd (apart 474 376 f refl)
objects_by printing (shown.Unit a) (shown.Party b) h k e f = absurd (apart 746 474 f refl)
objects_by printing (shown.Unit a) (shown.Unit b) h k e f = ap shown.Unit (same_unit a b e)
objects_by printing (shown.Unit a) (shown.Parcel b) h k e f = absurd (apart 746 756 f refl)
objects_by printing (shown.Unit a) (shown.Rrr b) h k e f = absurd (apart 746 565 f refl)
objects_by printing (shown.Unit a) (shown.Source b) h k e f = absurd (apart 746 465 f refl)
objects_by printing (shown.Unit a) (shown.Mutation b) h k e f = absurd (apart 746 376 f refl)
objects_by printing (shown.Parcel a) (shown.Party b) h k e f = absurd (apart 756 474 f refl)
objects_by printing (shown.Parcel a) (shown.Unit b) h k e f = absurd (apart 756 746 f refl)
objects_by printing (shown.Parcel a) (shown.Parcel b) h k e f = ap shown.Parcel (same_parcel printing a b h k e)
objects_by printing (shown.Parcel a) (shown.Rrr b) h k e f = absurd (apart 756 565 f refl)
objects_by printing (shown.Parcel a) (shown.Source b) h k e f = absurd (apart 756 465 f refl)
objects_by printing (shown.Parcel a) (shown.Mutation b) h k e f = absurd (apart 756 376 f refl)
objects_by printing (shown.Rrr a) (shown.Party b) h k e f = absurd (apart 565 474 f refl)
objects_by printing (shown.Rrr a) (shown.Unit b) h k e f = absurd (apart 565 746 f refl)
objects_by printing (shown.Rrr a) (shown.Parcel b) h k e f = absurd (apart 565 756 f refl)
objects_by printing (shown.Rrr a) (shown.Rrr b) h k e f = ap shown.Rrr (same_entry a b h.class k.class e)
objects_by printing (shown.Rrr a) (shown.Source b) h k e f = absurd (apart 565 465 f refl)
objects_by printing (shown.Rrr a) (shown.Mutation b) h k e f = absurd (apart 565 376 f refl)
objects_by printing (shown.Source a) (shown.Party b) h k e f = absurd (apart 465 474 f refl)
objects_by printing (shown.Source a) (shown.Unit b) h k e f = absurd (apart 465 746 f refl)
objects_by printing (shown.Source a) (shown.Parcel b) h k e f = absurd (apart 465 756 f refl)
objects_by printing (shown.Source a) (shown.Rrr b) h k e f = absurd (apart 465 565 f refl)
objects_by printing (shown.Source a) (shown.Source b) h k e f = ap shown.Source (same_source a b e)
objects_by printing (shown.Source a) (shown.Mutation b) h k e f = absurd (apart 465 376 f refl)
objects_by printing (shown.Mutation a) (shown.Party b) h k e f = absurd (apart 376 474 f refl)
objects_by printing (shown.Mutation a) (shown.Unit b) h k e f = absurd (apart 376 746 f refl)
objects_by printing (shown.Mutation a) (shown.Parcel b) h k e f = absurd (apart 376 756 f refl)
objects_by printing (shown.Mutation a) (shown.Rrr b) h k e f = absurd (apart 376 565 f refl)
objects_by printing (shown.Mutation a) (shown.Source b) h k e f = absurd (apart 376 465 f refl)
objects_by printing (shown.Mutation a) (shown.Mutation b) h k e f = ap shown.Mutation (same_mutation printing a b h k e)

pub same_object : PrintedLaw → (a b : Object) → IsObjectWithin a → IsObjectWithin b → object_data a ≡ object_data b → a ≡ b
same_object printing a b h k e =
    objects_by printing a b h k e
    (sym (object_lengths_are a) ∙ ap (λ (d : Data). entry_lengths (lengths d)) e ∙ object_lengths_are b)

pub objects_are_told : PrintedLaw → (a b : Object) → IsObjectWithin a → IsObjectWithin b → object_text a ≡ object_text b → a ≡ b
objects_are_told printing a b h k e =
    let deep_a : depth (object_data a) ≤ max_depth = omega (arith, object_depth a) in
    let deep_b : depth (object_data b) ≤ max_depth = omega (arith, object_depth b) in
    same_object printing a b h k (same_data (object_data a) (object_data b) (object_is_exact a h) (object_is_exact b k) deep_a deep_b e)
