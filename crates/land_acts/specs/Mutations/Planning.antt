-- The parts that all plans share.
use Rattle.std.specs.Prelude.{◌≡◌, ℕ, ◌+◌, ℤ, Bool, List, [], ◌∷◌, Option, Some, None, nat_lt}
use Rattle.std.specs.Prelude.{if◌then◌else◌}
use Rattle.land_acts.specs.declared.mutations.refusal.Refusal.{Refusal}
use Rattle.land_acts.specs.declared.mutations.refusal.Refusal.TheVariants as refusal
use Rattle.land_core.specs.Numbers.{last_next}
use Rattle.land_core.specs.Units.{rrr_count}
use Rattle.land_core.specs.declared.change.Change.{Change}
use Rattle.land_core.specs.declared.change.Done.{Done}
use Rattle.land_core.specs.declared.register.Register.{Register}
use Rattle.land_core.specs.declared.source.SourceKind.{SourceKind}
use Rattle.land_core.specs.declared.source.SourceRecord.{SourceRecord}

-- the number of a refusal in replies
abbrev pub refusal_number : Refusal → ℕ
refusal_number refusal.NotLodged = 201
refusal_number refusal.NoSuchUnit = 202
refusal_number refusal.NoSuchParcel = 203
refusal_number refusal.NoSuchRight = 204
refusal_number refusal.NoSuchParty = 205
refusal_number refusal.ShareTooLarge = 206
refusal_number refusal.SharesTooFine = 207
refusal_number refusal.UnitsUnlike = 209
refusal_number refusal.TooMany = 210
refusal_number refusal.NotBank = 211
refusal_number refusal.NotMortgage = 212
refusal_number refusal.SharesNotWhole = 213
refusal_number refusal.ReferenceUsed = 214
refusal_number refusal.RoleHeld = 215
refusal_number refusal.RoleNotHeld = 216
refusal_number refusal.ClockOut = 217
refusal_number refusal.LastAdministrator = 218
refusal_number refusal.SameParty = 219
refusal_number refusal.NotMatched = 220
refusal_number refusal.MandateHeld = 221
refusal_number refusal.NoMandate = 222
refusal_number refusal.NoMemory = 501

-- a plan is this change with this receipt
abbrev pub IsPlanOf : Change → Done → Change × Done → Type 0
IsPlanOf change done plan = (plan.0 ≡ change) × (plan.1 ≡ done)

-- whether `count` new objects would need more numbers
abbrev pub runs_out_of_numbers : Register → ℕ → Bool
runs_out_of_numbers r count = nat_lt last_next (r.next + count)

-- whether a unit would have more than 256 entries with `more` new ones
abbrev pub would_exceed_entries : Register → (unit more : ℕ) → Bool
would_exceed_entries r unit more = nat_lt 256 (rrr_count r unit + more)

-- the source that represents a document, under its number (LA_AdministrativeSource, LA_SpatialSource)
abbrev pub document_source : (number : ℕ) → SourceKind → (document : List ℕ) → List (ℕ × SourceRecord)
document_source number kind document = (number, record { kind = kind; title = document }) ∷ []

-- the receipt of an act that is about an object and created none
abbrev pub done_on : (number : ℕ) → ℤ → Done
done_on number stamp = record { number = number; made = []; stamp = stamp }

-- the first refusal whose condition holds
abbrev pub first_refusal_of : List (Refusal × Bool) → Option Refusal
first_refusal_of [] = None
first_refusal_of (line ∷ lines) = if line.1 then Some line.0 else first_refusal_of lines
