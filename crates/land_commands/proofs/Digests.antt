-- The contents of a register have the intervals that its digest requires.
use Rattle.std.proofs.Common.{◌≡◌, inl, inr, ℕ, ℤ, List, Option, Result, Ok, Err, IsErrAnd}
use Rattle.std.proofs.KnownBytes.{Appends-nil}
use Rattle.std.proofs.lemmas.Bool.{and_parts}
use Rattle.std.specs.Prelude.{◌&&◌, length, nat_lt}
use Rattle.land_commands.specs.Digesting.{DigestsRegister, IsOpenedWith}
use Rattle.land_commands.specs.declared.program_fault.ProgramFault.{ProgramFault}
use Rattle.land_commands.specs.declared.program_fault.ProgramFault.TheVariants.{NoMemory}
use Rattle.land_core.specs.Entries.{are_distinct}
use Rattle.land_digest.specs.Laws.{HasIntervals}
use Rattle.land_tables.specs.TableContents.{PassesTests}
use Rattle.land_tables.specs.declared.table_contents.TableContents.{TableContents}
use Rattle.land_tables.specs.TablesState.{TablesState}
use Rattle.land_tables_history.specs.ValidHistory.{is_same_stamp, never_decreases}
use Rattle.sqlite.specs.State.{State}
use Rattle.sqlite.specs.Store.{Ghosts}

pub passed_intervals : (found : TableContents) → PassesTests found → HasIntervals found.moments found.history
passed_intervals found passes =
    let moments = found.moments in
    let two = and_parts (nat_lt 0 (length moments) && are_distinct is_same_stamp moments) (never_decreases moments) passes.valid_history.moments in
    record {
      stamps = (and_parts (nat_lt 0 (length moments)) (are_distinct is_same_stamp moments) two.0).1;
      lifespans = passes.intervals;
    }

-- a register that was opened, without a line on the output
pub digest_unsaid : {S T : Type 0} (g : Ghosts S) (holds : State → Type 0) (at : ℤ) (o : TablesState S) (found : TableContents) (old : Option (List ℕ)) (r : Result T ProgramFault) → IsOpenedWith g holds o found
    → IsErrAnd r (λ f. f ≡ NoMemory) → DigestsRegister g holds at old old r
digest_unsaid g holds at o found old (Ok done) opened is = absurd is
digest_unsaid g holds at o found old (Err f) opened is = inr (o, found, opened, inl (is, Appends-nil old))
