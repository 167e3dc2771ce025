-- The act `burden`: a unit gets a restriction or a responsibility of a party.
use Rattle.std.specs.Prelude.{ℕ, ◌+◌, ℤ, Bool, not, ◌||◌, List, [], ◌∷◌, Option, is_none}
use Rattle.land_acts.specs.Mutations.Planning.{document_source, runs_out_of_numbers, would_exceed_entries}
use Rattle.land_acts.specs.declared.mutations.refusal.Refusal.{Refusal}
use Rattle.land_acts.specs.declared.mutations.refusal.Refusal.TheVariants.{NoSuchUnit, NoSuchParty, TooMany}
use Rattle.land_acts.specs.declared.mutations.refusal.Refusal.TheVariants.{ClockOut}
use Rattle.land_core.specs.Changes.{no_put, no_ended}
use Rattle.land_core.specs.Entries.{has}
use Rattle.land_core.specs.declared.act.Burden.{Burden}
use Rattle.land_core.specs.declared.act.BurdenClass.{BurdenClass}
use Rattle.land_core.specs.declared.act.BurdenClass.TheVariants as burden
use Rattle.land_core.specs.declared.change.Change.{Change}
use Rattle.land_core.specs.declared.change.Done.{Done}
use Rattle.land_core.specs.declared.register.Register.{Register}
use Rattle.land_core.specs.declared.rrr.Class.{Class}
use Rattle.land_core.specs.declared.rrr.Class.TheVariants as class
use Rattle.land_core.specs.declared.source.SourceKind.TheVariants.{Administrative}

-- the refusals with their conditions, in ascending order
abbrev pub burden_refusals : Register → Burden → Option ℤ → List (Refusal × Bool)
burden_refusals r it stamp =
    (NoSuchUnit, not (has r.units it.unit))
    ∷ (NoSuchParty, not (has r.parties it.party))
    ∷ (TooMany, runs_out_of_numbers r 2 || would_exceed_entries r it.unit 1)
    ∷ (ClockOut, is_none stamp)
    ∷ []

-- the class of the entry with these words
abbrev pub class_of_burden : BurdenClass → (words : List ℕ) → Class
class_of_burden burden.Restriction words = class.Restriction words
class_of_burden burden.Responsibility words = class.Responsibility words

-- the source gets the next number, and the entry the one after it; the source of the entry is this document
abbrev pub burden_change : Register → Burden → Change
burden_change r it = record {
  put = record no_put {
    rrrs = (
      r.next + 1,
      record {
        unit = it.unit;
        party = it.party;
        class = class_of_burden it.class it.words;
        source = r.next;
      },
    ) ∷ [];
    sources = document_source r.next Administrative it.document;
  };
  ended = no_ended;
  next = r.next + 2;
}

-- the receipt is about the entry
abbrev pub burden_done : Register → ℤ → Done
burden_done r stamp = record { number = r.next + 1; made = r.next ∷ (r.next + 1) ∷ []; stamp = stamp }
