-- Commands on files, by the result of their last call.
use Rattle.std.proofs.Common.{◌≡◌, inl, inr, subst, sym, ℕ, List, Option, Result, Ok, Err, IsErrAnd}
use Rattle.std.proofs.KnownBytes.{Appends-nil}
use Rattle.std.specs.Prelude.{IfErr, OnOk}
use Rattle.land_commands.specs.Filed.{IsCreatedIn, CreatesRegister, ServesFileBy, ServesOpened}
use Rattle.land_commands.specs.Migrating.{IsMigrating, IsMigratedFile}
use Rattle.land_commands.specs.ProgramFaults.{IsFaultOfClosing}
use Rattle.land_commands.specs.declared.program_fault.ProgramFault.{ProgramFault}
use Rattle.land_tables.specs.TablesState.{TablesState}
use Rattle.sqlite.specs.Held.{Held}
use Rattle.sqlite.specs.State.{State}
use Rattle.sqlite.specs.Store.{Ghosts}

-- a register that was created is reported as created, if its file is closed
pub made_and_closed : {S T : Type 0} (g : Ghosts S) (holds : State → Type 0) (closed : Held S → Type 0) (o : TablesState S) (r : Result T ProgramFault) → IsCreatedIn g holds o
    → OnOk r (closed o.conn) → IfErr r IsFaultOfClosing → CreatesRegister g holds closed r
made_and_closed g holds closed o (Ok done) made shut closing = (o, made, shut)
made_and_closed g holds closed o (Err fault) made shut closing = inr (inr (o, made, closing))

-- a register that was served is reported as served, if its file is closed
pub served_and_closed : {S T F : Type 0} (g : Ghosts S) (holds : State → Type 0) (closed : Held S → Type 0)
    (serves : TablesState S → TablesState S → Result T F → Type 0) (reported : F → ProgramFault) (done : T)
    (r : Result T ProgramFault) → ((a b : T) → a ≡ b) → (it : ServesOpened g holds serves (Ok done)) → OnOk r (closed it.to.conn) → IfErr r IsFaultOfClosing
    → ServesFileBy g holds closed serves reported r
served_and_closed {S} {T} {F} g holds closed serves reported done (Ok it) alike served shut closing = (
  record {
    from = served.from;
    to = served.to;
    taken = served.taken;
    served = subst (λ (x : T). serves served.from served.to (Ok x)) (alike done it) served.served;
  },
  shut,
)
served_and_closed g holds closed serves reported done (Err fault) alike served shut closing = inr (inr (inr (done, served, closing)))

-- a register that was migrated, without a line on the output
pub raised_unsaid : {S T : Type 0} (g : Ghosts S) (holds : State → Type 0) (closed : Held S → Type 0) (o : TablesState S) (old : Option (List ℕ)) (fault : ProgramFault) (r : Result T ProgramFault) → IsMigratedFile g holds o
    → IsErrAnd r (λ f. f ≡ fault) → IsFaultOfClosing fault → IsMigrating g holds closed old old r
raised_unsaid g holds closed o old fault (Ok done) migrated is closing = absurd is
raised_unsaid g holds closed o old fault (Err f) migrated is closing = inr (o, migrated, inl (subst IsFaultOfClosing (sym is) closing, Appends-nil old))
