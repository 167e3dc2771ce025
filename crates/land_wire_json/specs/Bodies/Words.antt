-- Words of kinds, roles, types and classes, and the fields that contain them. Words are case-sensitive.
use Rattle.std.specs.Prelude.{ℕ, List, codes, bytes_eq, Result, Ok, Err, if◌then◌else◌}
use Rattle.land_core.specs.declared.act.BurdenClass.{BurdenClass}
use Rattle.land_core.specs.declared.act.BurdenClass.TheVariants as burden
use Rattle.land_core.specs.declared.kind.PartyKind.{PartyKind}
use Rattle.land_core.specs.declared.kind.PartyKind.TheVariants as kind
use Rattle.land_core.specs.declared.role.Role.{Role}
use Rattle.land_core.specs.declared.role.Role.TheVariants as role
use Rattle.land_core.specs.declared.rrr.RightType.{RightType}
use Rattle.land_core.specs.declared.rrr.RightType.TheVariants as right
use Rattle.land_wire_json.specs.Bodies.Fields.{text_at}
use Rattle.land_wire_json.specs.Bodies.WireFaults.{◌>>=◌}
use Rattle.land_wire_json.specs.declared.bodies.wire_fault.WireFault.{WireFault}
use Rattle.land_wire_json.specs.declared.bodies.wire_fault.WireFault.TheVariants as fault
use Rattle.serde_json.specs.Data.{Data}

-- the kind of a single party; fault 133 for any other word
abbrev pub enrolled_kind_of : List ℕ → Result PartyKind WireFault
enrolled_kind_of word =
    if bytes_eq word (codes "naturalPerson") then Ok kind.NaturalPerson
    else (if bytes_eq word (codes "nonNaturalPerson") then Ok kind.NonNaturalPerson else Err fault.Text)

unfoldable pub kind_in : Data → Result PartyKind WireFault
kind_in value = text_at (codes "kind") value >>= enrolled_kind_of

-- the role; fault 134 for any other word
abbrev pub role_of : List ℕ → Result Role WireFault
role_of word =
    if bytes_eq word (codes "citizen") then Ok role.Citizen
    else (if bytes_eq word (codes "conveyancer") then Ok role.Conveyancer
    else (if bytes_eq word (codes "notary") then Ok role.Notary
    else (if bytes_eq word (codes "bank") then Ok role.Bank
    else (if bytes_eq word (codes "certifiedSurveyor") then Ok role.CertifiedSurveyor
    else (if bytes_eq word (codes "stateAdministrator") then Ok role.StateAdministrator
    else Err fault.Role)))))

unfoldable pub role_in : Data → Result Role WireFault
role_in value = text_at (codes "role") value >>= role_of

-- the type of a right; fault 133 for any other word
abbrev pub right_type_of : List ℕ → Result RightType WireFault
right_type_of word =
    if bytes_eq word (codes "ownership") then Ok right.Ownership
    else (if bytes_eq word (codes "lease") then Ok right.Lease
    else (if bytes_eq word (codes "usufruct") then Ok right.Usufruct else Err fault.Text))

unfoldable pub type_in : Data → Result RightType WireFault
type_in value = text_at (codes "type") value >>= right_type_of

-- the class of a burden; fault 133 for any other word
abbrev pub burden_class_of : List ℕ → Result BurdenClass WireFault
burden_class_of word =
    if bytes_eq word (codes "restriction") then Ok burden.Restriction
    else (if bytes_eq word (codes "responsibility") then Ok burden.Responsibility else Err fault.Text)

unfoldable pub class_in : Data → Result BurdenClass WireFault
class_in value = text_at (codes "class") value >>= burden_class_of
