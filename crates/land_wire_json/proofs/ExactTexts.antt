-- The JSON of objects and contents within their limits is exact, and its depth is small.
use Rattle.std.proofs.Common.{◌≡◌, ◌≤◌, ◌^◌, ℕ, ℤ, pos, negsuc, List, [], ◌∷◌, true, nat_lt, map, Option, Some, None, refl, arith}
use Rattle.std.proofs.lemmas.Bool.Decides.{nat_tests}
use Rattle.std.specs.List.{AllByRecursion}
use Rattle.land_core.specs.declared.content.Content.{Content}
use Rattle.land_core.specs.declared.content.Content.TheVariants as content
use Rattle.land_core.specs.declared.member.Member.{Member}
use Rattle.land_core.specs.declared.object.Object.{Object}
use Rattle.land_core.specs.declared.object.Object.TheVariants as shown
use Rattle.land_core.specs.declared.role.Role.{Role}
use Rattle.land_core.specs.declared.rrr.Class.{Class}
use Rattle.land_core.specs.declared.rrr.Class.TheVariants.{Right, Restriction, Responsibility, Mortgage}
use Rattle.land_core.specs.declared.rrr.Rrr.{Rrr}
use Rattle.land_core.specs.declared.subdivision.Part.{Part}
use Rattle.land_shape.specs.Outline.{doubled_area}
use Rattle.land_wire_json.specs.Texts.Exact.{is_exact, are_exact}
use Rattle.land_wire_json.specs.Texts.Limits.{FitsU64, FitsU64Moment, IsPartWithin, IsContentWithin, IsMemberWithin, IsClassWithin, IsRrrWithin, IsObjectWithin}
use Rattle.land_wire_json.specs.Texts.Mutations.{content_data}
use Rattle.land_wire_json.specs.Texts.Objects.{object_data}
use Rattle.land_wire_json.specs.Texts.Parties.{role_data, member_data}
use Rattle.land_wire_json.specs.Texts.Rrrs.{class_data}
use Rattle.land_wire_json.specs.Texts.Subdivisions.{part_data}
use Rattle.land_wire_json.specs.Texts.Values.{number_data}
use Rattle.serde_json.specs.Data.{Data, number, depth, items_depth}
use Rattle.serde_json.specs.Find.{of_integer}
use Rattle.serde_json.specs.View.{items_of}

fits : (n : ℕ) → FitsU64 n → nat_lt n (2 ^ 64) ≡ true
fits n h = grind (arith, nat_tests, h)

pub number_is_exact : (n : ℕ) → FitsU64 n → is_exact (number_data n) ≡ true
number_is_exact n h = fits n h

pub moment_is_exact : (z : ℤ) → FitsU64Moment z → is_exact (number (of_integer z)) ≡ true
moment_is_exact (pos n) h = fits n h
moment_is_exact (negsuc n) h = absurd h

-- ---- lists

list_is_exact : {X : Type 0} (data_of : X → Data) (P : X → Type 0) → ((x : X) → P x → is_exact (data_of x) ≡ true)
    → (xs : List X) → AllByRecursion P xs → are_exact (items_of (map data_of xs)) ≡ true
list_is_exact data_of P one [] h = refl
list_is_exact data_of P one (x ∷ xs) h = rw (one x h.0, list_is_exact data_of P one xs h.1) refl

list_depth : {X : Type 0} (data_of : X → Data) (n : ℕ) → ((x : X) → depth (data_of x) ≤ n) → (xs : List X) → items_depth (items_of (map data_of xs)) ≤ n
list_depth data_of n one [] = omega arith
list_depth data_of n one (x ∷ xs) = omega (arith, one x, list_depth data_of n one xs)

pub numbers_are_exact : (ns : List ℕ) → AllByRecursion FitsU64 ns → are_exact (items_of (map number_data ns)) ≡ true
numbers_are_exact = list_is_exact number_data FitsU64 number_is_exact

pub numbers_depth : (ns : List ℕ) → items_depth (items_of (map number_data ns)) ≤ 0
numbers_depth = list_depth number_data 0 (λ n. omega arith)

roles_are_exact : (rs : List Role) → are_exact (items_of (map role_data rs)) ≡ true
roles_are_exact [] = refl
roles_are_exact (r ∷ rs) = roles_are_exact rs

member_is_exact : (m : Member) → IsMemberWithin m → is_exact (member_data m) ≡ true
member_is_exact m h = rw (fits m.party h.party) refl

part_is_exact : (part : Part) → is_exact (part_data part) ≡ true
part_is_exact part = by part.unit
  where
    by : (unit : Option (List ℕ)) → (let it : Part = record { label = part.label; outline = part.outline; unit = unit } in is_exact (part_data it) ≡ true)
    by None = refl
    by (Some name) = refl

part_depth : (part : Part) → depth (part_data part) ≤ 1
part_depth part = by part.unit
  where
    by : (unit : Option (List ℕ)) → (let it : Part = record { label = part.label; outline = part.outline; unit = unit } in depth (part_data it) ≤ 1)
    by None = omega arith
    by (Some name) = omega arith

-- ---- contents

pub content_is_exact : (it : Content) → IsContentWithin it → is_exact (content_data it) ≡ true
content_is_exact (content.Transfer it) h = rw (fits it.unit h.unit, fits it.right h.right, fits it.receiver h.receiver) refl
content_is_exact (content.Subdivision it) h =
    rw (fits it.unit h.unit, fits it.parcel h.parcel, list_is_exact part_data IsPartWithin (λ part within. part_is_exact part) it.rest h.rest) refl
content_is_exact (content.Merger it) h =
    rw (fits it.unit h.unit, numbers_are_exact it.others h.others, numbers_are_exact it.parcels h.parcels) refl
content_is_exact (content.Mortgage it) h = rw (fits it.unit h.unit, fits it.creditor h.creditor, fits it.amount h.amount) refl
content_is_exact (content.Discharge it) h = rw (fits it.unit h.unit, fits it.mortgage h.mortgage) refl

pub content_depth : (it : Content) → depth (content_data it) ≤ 3
content_depth (content.Transfer it) = omega arith
content_depth (content.Subdivision it) = omega (arith, list_depth part_data 1 part_depth it.rest)
content_depth (content.Merger it) = omega (arith, numbers_depth it.others, numbers_depth it.parcels)
content_depth (content.Mortgage it) = omega arith
content_depth (content.Discharge it) = omega arith

-- ---- objects

class_is_exact : (entry : Rrr) (class : Class) → IsRrrWithin entry → IsClassWithin class → is_exact (class_data entry class) ≡ true
class_is_exact entry (Right type share) h k =
    rw (fits entry.number h.number, fits entry.party h.party, fits entry.source h.source, fits entry.unit h.unit) refl
class_is_exact entry (Restriction words) h k =
    rw (fits entry.number h.number, fits entry.party h.party, fits entry.source h.source, fits entry.unit h.unit) refl
class_is_exact entry (Responsibility words) h k =
    rw (fits entry.number h.number, fits entry.party h.party, fits entry.source h.source, fits entry.unit h.unit) refl
class_is_exact entry (Mortgage amount currency rank) h k =
    rw (fits amount k.0, fits entry.number h.number, fits entry.party h.party, fits rank k.1, fits entry.source h.source, fits entry.unit h.unit) refl

class_depth : (entry : Rrr) (class : Class) → depth (class_data entry class) ≤ 1
class_depth entry (Right type share) = omega arith
class_depth entry (Restriction words) = omega arith
class_depth entry (Responsibility words) = omega arith
class_depth entry (Mortgage amount currency rank) = omega arith

pub object_is_exact : (it : Object) → IsObjectWithin it → is_exact (object_data it) ≡ true
object_is_exact (shown.Party party) h =
    rw (list_is_exact member_data IsMemberWithin member_is_exact party.members h.members, fits party.number h.number, roles_are_exact party.roles) refl
object_is_exact (shown.Unit unit) h = rw (fits unit.number h) refl
object_is_exact (shown.Parcel parcel) h =
    let small : FitsU64 (doubled_area parcel.outline) = omega (arith, h.outline.small) in
    rw (fits (doubled_area parcel.outline) small, fits parcel.number h.number, fits parcel.source h.source, fits parcel.unit h.unit) refl
object_is_exact (shown.Rrr entry) h = class_is_exact entry entry.class h h.class
object_is_exact (shown.Source source) h = rw (fits source.number h) refl
object_is_exact (shown.Mutation mutation) h =
    rw (
      content_is_exact mutation.content h.content,
      moment_is_exact mutation.lodged h.lodged,
      fits mutation.lodger h.lodger,
      fits mutation.number h.number,
      fits mutation.source h.source,
    ) refl

pub object_depth : (it : Object) → depth (object_data it) ≤ 4
object_depth (shown.Party party) =
    omega (arith, list_depth member_data 1 (λ m. omega arith) party.members, list_depth role_data 0 (λ r. omega arith) party.roles)
object_depth (shown.Unit unit) = omega arith
object_depth (shown.Parcel parcel) = omega arith
object_depth (shown.Rrr entry) = omega (arith, class_depth entry entry.class)
object_depth (shown.Source source) = omega arith
object_depth (shown.Mutation mutation) = omega (arith, content_depth mutation.content)
