-- The code words of the register (code lists of ISO 19152), as in requests, replies, sheets, extracts and
-- tables.
use Rattle.std.specs.Prelude.{List, ℕ, codes}
use Rattle.land_core.specs.declared.content.Content.{Content}
use Rattle.land_core.specs.declared.content.Content.TheVariants as content
use Rattle.land_core.specs.declared.kind.PartyKind.{PartyKind}
use Rattle.land_core.specs.declared.kind.PartyKind.TheVariants as kind
use Rattle.land_core.specs.declared.mutation.MutationState.{MutationState}
use Rattle.land_core.specs.declared.mutation.MutationState.TheVariants.{Lodged, Approved, Refused}
use Rattle.land_core.specs.declared.role.Role.{Role}
use Rattle.land_core.specs.declared.role.Role.TheVariants as role
use Rattle.land_core.specs.declared.rrr.Class.{Class}
use Rattle.land_core.specs.declared.rrr.Class.TheVariants.{Right, Restriction, Responsibility, Mortgage}
use Rattle.land_core.specs.declared.rrr.RightType.{RightType}
use Rattle.land_core.specs.declared.rrr.RightType.TheVariants.{Ownership, Lease, Usufruct}
use Rattle.land_core.specs.declared.source.SourceKind.{SourceKind}
use Rattle.land_core.specs.declared.source.SourceKind.TheVariants.{Administrative, Spatial}

-- the word of a kind of party (LA_PartyType)
abbrev pub party_word : PartyKind → List ℕ
party_word kind.NaturalPerson = codes "naturalPerson"
party_word kind.NonNaturalPerson = codes "nonNaturalPerson"
party_word kind.Group = codes "group"

-- the word of a role (LA_PartyRoleType)
abbrev pub role_word : Role → List ℕ
role_word role.Citizen = codes "citizen"
role_word role.Conveyancer = codes "conveyancer"
role_word role.Notary = codes "notary"
role_word role.Bank = codes "bank"
role_word role.CertifiedSurveyor = codes "certifiedSurveyor"
role_word role.StateAdministrator = codes "stateAdministrator"

-- the word of a type of right (LA_RightType)
abbrev pub right_word : RightType → List ℕ
right_word Ownership = codes "ownership"
right_word Lease = codes "lease"
right_word Usufruct = codes "usufruct"

-- the word of an entry's class; for a right it is the word of its type
abbrev pub class_word : Class → List ℕ
class_word (Right type share) = right_word type
class_word (Restriction words) = codes "restriction"
class_word (Responsibility words) = codes "responsibility"
class_word (Mortgage amount currency rank) = codes "mortgage"

-- the word of a kind of source
abbrev pub source_word : SourceKind → List ℕ
source_word Administrative = codes "administrative"
source_word Spatial = codes "spatial"

-- the word of the act that lodges a content
abbrev pub content_word : Content → List ℕ
content_word (content.Transfer it) = codes "transfer"
content_word (content.Subdivision it) = codes "subdivision"
content_word (content.Merger it) = codes "merger"
content_word (content.Mortgage it) = codes "mortgage"
content_word (content.Discharge it) = codes "discharge"

-- the word of the state of a mutation
abbrev pub state_word : MutationState → List ℕ
state_word Lodged = codes "lodged"
state_word Approved = codes "approved"
state_word Refused = codes "refused"
