-- Statements on one table, and then on others, rewrite the history that all tables hold.
use Rattle.std.proofs.Common.{◌≡◌, ◌≢◌, ◌∙◌, ℕ, ℤ, Bool, false, List, [], ◌∷◌, ◌++◌, IsPermutation, Ok, Result, map, refl, sym, ap, arith, subst}
use Rattle.std.specs.List.{list_any}
use Rattle.land_core.specs.Members.{Members}
use Rattle.land_core.specs.declared.change.Change.{Change}
use Rattle.land_core.specs.declared.mandates.Mandate.{Mandate}
use Rattle.land_core.specs.declared.mutation.MutationRecord.{MutationRecord}
use Rattle.land_core.specs.declared.parcel.ParcelRecord.{ParcelRecord}
use Rattle.land_core.specs.declared.party.PartyRecord.{PartyRecord}
use Rattle.land_core.specs.declared.roles.Grant.{Grant}
use Rattle.land_core.specs.declared.rrr.RrrRecord.{RrrRecord}
use Rattle.land_core.specs.declared.source.SourceRecord.{SourceRecord}
use Rattle.land_core.specs.declared.unit.UnitRecord.{UnitRecord}
use Rattle.land_tables_history.specs.Changed.{opened_version, changed_namings, changed_versions, closed_version, is_changed, listed_members, named_by, new_mutations}
use Rattle.land_tables_history.specs.Intervals.{is_same_grant, is_same_mandate}
use Rattle.land_tables_history.specs.Written.{existing_records, written_history, written_mandates, written_members, written_part, written_roles}
use Rattle.land_tables_history.specs.declared.history.History.{History}
use Rattle.land_tables_history.specs.declared.moment.Moment.{Moment}
use Rattle.land_tables_history.specs.declared.version.Version.{Version}
use Rattle.land_tables_rows.proofs.Loops.{step_after}
use Rattle.land_tables_rows.specs.Edition.Reading.{edition_in}
use Rattle.land_tables_rows.specs.Edition.Writing.{HoldsEditions}
use Rattle.land_tables_rows.specs.Mandate.Writing.{mandate_reading}
use Rattle.land_tables_rows.specs.Member.Writing.{member_reading}
use Rattle.land_tables_rows.specs.Moment.Writing.{InsertsMoment}
use Rattle.land_tables_rows.specs.Mutation.Writing.{mutation_reading}
use Rattle.land_tables_rows.specs.Naming.Writing.{naming_reading}
use Rattle.land_tables_rows.specs.Parcel.Writing.{parcel_reading}
use Rattle.land_tables_rows.specs.Party.Writing.{party_reading}
use Rattle.land_tables_rows.specs.Recording.{BeginsAll, Changes}
use Rattle.land_tables_rows.specs.Recording.Whole.{RewritesTables, WritesChange}
use Rattle.land_tables_rows.specs.Role.Writing.{role_reading}
use Rattle.land_tables_rows.specs.Rrr.Writing.{rrr_reading}
use Rattle.land_tables_rows.specs.Source.Writing.{source_reading}
use Rattle.land_tables_rows.specs.Unit.Writing.{unit_reading}
use Rattle.land_tables_rows.specs.Writing.History.{HoldsHistory}
use Rattle.land_tables_rows.specs.Writing.Holding.{Keeps, Reading}
use Rattle.land_tables_rows.specs.Writing.Laws.{TableChangesKeepHistory, HoldsWith}
use Rattle.land_tables_rows.specs.declared.edition.reading.Edition.{Edition}
use Rattle.land_tables_schema.proofs.Kept.{are_kept}
use Rattle.land_tables_schema.proofs.Steps.{step_then}
use Rattle.land_tables_schema.specs.Rows.Forms.{KeepsOthers}
use Rattle.land_tables_schema.specs.Rows.ReadQueries.{numbered_cells}
use Rattle.land_tables_schema.specs.Steps.{IsTransactionStep}
use Rattle.land_tables_schema.specs.Tables as table
use Rattle.sqlite.specs.Effect.{Database}
use Rattle.sqlite.specs.State.{State}
use Rattle.sqlite_schema.specs.declared.schema.Table.{Table}
use Rattle.sqlite_trees.specs.Tree.{Trees}

-- a write to another table leaves the editions unchanged
pub editions_kept : (one : Table) (old new : Trees) → one.tree ≢ 0 → KeepsOthers one old new → (editions : List Edition) → HoldsEditions old editions → HoldsEditions new editions
editions_kept one old new other kept editions tells =
    subst (λ rows. IsPermutation (map (λ r. edition_in (numbered_cells r)) rows) (map (λ x. Ok x) editions)) (sym ((are_kept one old new kept).edition other)) tells

-- one rewrite after another
pub edits_then : (f g : History → History) (a b c : Database) → RewritesTables f a b → RewritesTables g b c → RewritesTables (λ h. g (f h)) a c
edits_then f g a b c first next = record {
  schema = next.schema ∙ first.schema;
  held = λ moments h holds. next.held moments (f h) (first.held moments h holds);
  editions = λ es keeps. next.editions es (first.editions es keeps);
}

-- each element of a list, unchanged
all_same : {X : Type 0} (xs : List X) → map (λ x. x) xs ≡ xs
all_same [] = refl
all_same (x ∷ xs) = ap (λ l. x ∷ l) (all_same xs)

-- if no version matches, none ends
none_closed : {X : Type 0} (stamp : ℤ) (vs : List (Version X)) → map (closed_version (λ x. false) stamp) vs ≡ vs
none_closed stamp [] = refl
none_closed stamp (v ∷ vs) = ap (λ ws. v ∷ ws) (none_closed stamp vs)

-- ---- one kind

module _ {X : Type 0} (reading : Reading X) (insert_moment : List (Version X) → History → History) (part : History → List (Version X)) (held : HoldsWith reading insert_moment)
    (there : (db : Trees) (moments : List Moment) (h : History) → HoldsHistory db moments h → Keeps reading db (part h)) (other : reading.table.tree ≢ 0) where
  one_edits : (make : List (Version X) → List (Version X)) (a b : Database) → b.schema ≡ a.schema → ((vs : List (Version X)) → Keeps reading a.trees vs → Keeps reading b.trees (make vs))
      → KeepsOthers reading.table a.trees b.trees → RewritesTables (λ h. insert_moment (make (part h)) h) a b
  one_edits make a b schema keeps kept = record {
    schema = schema;
    held = λ moments h holds. held a.trees b.trees moments h (make (part h)) holds kept (keeps (part h) (there a.trees moments h holds));
    editions = λ es tells. editions_kept reading.table a.trees b.trees other kept es tells;
  }

  kind_edits : (put : List X) (meant : X → Bool) (stamp : ℤ) (a b : Database) → Changes reading put meant stamp a b → RewritesTables (λ h. insert_moment (changed_versions put meant stamp (part h)) h) a b
  kind_edits put meant stamp a b done = one_edits (changed_versions put meant stamp) a b done.schema done.held done.kept

module _ (laws : TableChangesKeepHistory) (stamp : ℤ) (a b : Database) where
  pub parties_edit : (next : ℕ) (put : List (ℕ × PartyRecord)) (ended : List ℕ) → Changes party_reading put (λ e. is_changed (existing_records (λ x. x.0) next put) ended e.0) stamp a b → RewritesTables (λ h. record h { parties = written_part next put ended stamp h.parties }) a b
  parties_edit next put ended done = kind_edits party_reading (λ vs h. record h { parties = vs }) (λ h. h.parties) laws.parties (λ db moments h holds. holds.the_parties) (λ e. absurd (omega arith)) put (λ e. is_changed (existing_records (λ x. x.0) next put) ended e.0) stamp a b done

  pub members_edit : (next : ℕ) (put : List (ℕ × Members)) (ended : List ℕ) → Changes member_reading (listed_members put) (λ e. is_changed (existing_records (λ x. x.0) next put) ended e.group) stamp a b → RewritesTables (λ h. record h { members = written_members next put ended stamp h.members }) a b
  members_edit next put ended done = kind_edits member_reading (λ vs h. record h { members = vs }) (λ h. h.members) laws.members (λ db moments h holds. holds.the_members) (λ e. absurd (omega arith)) (listed_members put) (λ e. is_changed (existing_records (λ x. x.0) next put) ended e.group) stamp a b done

  pub units_edit : (next : ℕ) (put : List (ℕ × UnitRecord)) (ended : List ℕ) → Changes unit_reading put (λ e. is_changed (existing_records (λ x. x.0) next put) ended e.0) stamp a b → RewritesTables (λ h. record h { units = written_part next put ended stamp h.units }) a b
  units_edit next put ended done = kind_edits unit_reading (λ vs h. record h { units = vs }) (λ h. h.units) laws.units (λ db moments h holds. holds.the_units) (λ e. absurd (omega arith)) put (λ e. is_changed (existing_records (λ x. x.0) next put) ended e.0) stamp a b done

  pub parcels_edit : (next : ℕ) (put : List (ℕ × ParcelRecord)) (ended : List ℕ) → Changes parcel_reading put (λ e. is_changed (existing_records (λ x. x.0) next put) ended e.0) stamp a b → RewritesTables (λ h. record h { parcels = written_part next put ended stamp h.parcels }) a b
  parcels_edit next put ended done = kind_edits parcel_reading (λ vs h. record h { parcels = vs }) (λ h. h.parcels) laws.parcels (λ db moments h holds. holds.the_parcels) (λ e. absurd (omega arith)) put (λ e. is_changed (existing_records (λ x. x.0) next put) ended e.0) stamp a b done

  pub rrrs_edit : (next : ℕ) (put : List (ℕ × RrrRecord)) (ended : List ℕ) → Changes rrr_reading put (λ e. is_changed (existing_records (λ x. x.0) next put) ended e.0) stamp a b → RewritesTables (λ h. record h { rrrs = written_part next put ended stamp h.rrrs }) a b
  rrrs_edit next put ended done = kind_edits rrr_reading (λ vs h. record h { rrrs = vs }) (λ h. h.rrrs) laws.rrrs (λ db moments h holds. holds.the_rrrs) (λ e. absurd (omega arith)) put (λ e. is_changed (existing_records (λ x. x.0) next put) ended e.0) stamp a b done

  pub sources_edit : (next : ℕ) (put : List (ℕ × SourceRecord)) (ended : List ℕ) → Changes source_reading put (λ e. is_changed (existing_records (λ x. x.0) next put) ended e.0) stamp a b → RewritesTables (λ h. record h { sources = written_part next put ended stamp h.sources }) a b
  sources_edit next put ended done = kind_edits source_reading (λ vs h. record h { sources = vs }) (λ h. h.sources) laws.sources (λ db moments h holds. holds.the_sources) (λ e. absurd (omega arith)) put (λ e. is_changed (existing_records (λ x. x.0) next put) ended e.0) stamp a b done

  pub mutations_edit : (next : ℕ) (put : List (ℕ × MutationRecord)) (ended : List ℕ) → Changes mutation_reading put (λ e. is_changed (existing_records (λ x. x.0) next put) ended e.0) stamp a b → RewritesTables (λ h. record h { mutations = written_part next put ended stamp h.mutations }) a b
  mutations_edit next put ended done = kind_edits mutation_reading (λ vs h. record h { mutations = vs }) (λ h. h.mutations) laws.mutations (λ db moments h holds. holds.the_mutations) (λ e. absurd (omega arith)) put (λ e. is_changed (existing_records (λ x. x.0) next put) ended e.0) stamp a b done

  -- ---- roles: each grant is its own key

  pub roles_edit : (next : ℕ) (put ended : List Grant) → Changes role_reading put (λ grant. list_any (is_same_grant grant) (map (λ g. g) (existing_records (λ x. x.party) next put) ++ ended)) stamp a b
      → RewritesTables (λ h. record h { roles = written_roles next put ended stamp h.roles }) a b
  roles_edit next put ended done =
      subst (λ (keys : List Grant). RewritesTables (λ h. record h { roles = changed_versions put (λ grant. list_any (is_same_grant grant) (keys ++ ended)) stamp h.roles }) a b) (all_same (existing_records (λ x. x.party) next put))
      (kind_edits role_reading (λ vs h. record h { roles = vs }) (λ h. h.roles) laws.roles (λ db moments h holds. holds.the_roles) (λ e. absurd (omega arith)) put
      (λ grant. list_any (is_same_grant grant) (map (λ g. g) (existing_records (λ x. x.party) next put) ++ ended)) stamp a b done)

  -- ---- mandates: each mandate is its own key

  pub mandates_edit : (next : ℕ) (put ended : List Mandate) → Changes mandate_reading put (λ mandate. list_any (is_same_mandate mandate) (map (λ m. m) (existing_records (λ x. x.principal) next put) ++ ended)) stamp a b
      → RewritesTables (λ h. record h { mandates = written_mandates next put ended stamp h.mandates }) a b
  mandates_edit next put ended done =
      subst (λ (keys : List Mandate). RewritesTables (λ h. record h { mandates = changed_versions put (λ mandate. list_any (is_same_mandate mandate) (keys ++ ended)) stamp h.mandates }) a b) (all_same (existing_records (λ x. x.principal) next put))
      (kind_edits mandate_reading (λ vs h. record h { mandates = vs }) (λ h. h.mandates) laws.mandates (λ db moments h holds. holds.the_mandates) (λ e. absurd (omega arith)) put
      (λ mandate. list_any (is_same_mandate mandate) (map (λ m. m) (existing_records (λ x. x.principal) next put) ++ ended)) stamp a b done)

  -- ---- links of mutations to units: none ends

  pub namings_edit : (next : ℕ) (put : List (ℕ × MutationRecord)) → BeginsAll naming_reading (named_by (new_mutations next put)) stamp a b → RewritesTables (λ h. record h { namings = changed_namings next put stamp h.namings }) a b
  namings_edit next put done =
      one_edits naming_reading (λ vs h. record h { namings = vs }) (λ h. h.namings) laws.namings (λ db moments h holds. holds.the_namings) (λ e. absurd (omega arith)) (changed_namings next put stamp) a b done.schema
      (λ vs keeps. subst (λ ws. Keeps naming_reading b.trees (map (λ x. opened_version x stamp) (named_by (new_mutations next put)) ++ ws)) (sym (none_closed stamp vs)) (done.held vs keeps)) done.kept

-- ---- several steps

-- three steps in sequence, each of which rewrites the history
pub three_steps : {X Y Z E : Type 0} {x : X} {y : Y} {First Next Last : Database → Database → Type 0} (f g k : History → History) (a b c d : State) (r : Result Z E)
    → IsTransactionStep {X = X} {E = E} (Ok x) First a b → IsTransactionStep {X = Y} {E = E} (Ok y) Next b c → IsTransactionStep r Last c d
    → (First a.now b.now → RewritesTables f a.now b.now) → (Next b.now c.now → RewritesTables g b.now c.now) → (Last c.now d.now → RewritesTables k c.now d.now) → IsTransactionStep r (RewritesTables (λ h. k (g (f h)))) a d
three_steps {E = E} f g k a b c d r first next last one two three =
    let so_far : IsTransactionStep {X = Unit {0}} {E = E} (Ok tt) (RewritesTables (λ h. g (f h))) a c = step_then a b c first next (λ clean p q. edits_then f g a.now b.now c.now (one p) (two q)) in
    step_after a c d r so_far last (λ clean p q. edits_then (λ h. g (f h)) k a.now c.now d.now p (three q))

-- two steps in sequence
pub two_steps : {X Y E : Type 0} {x : X} {y : Y} {First Next : Database → Database → Type 0} (f g : History → History) (a b c : State)
    → IsTransactionStep {X = X} {E = E} (Ok x) First a b → IsTransactionStep {X = Y} {E = E} (Ok y) Next b c
    → (First a.now b.now → RewritesTables f a.now b.now) → (Next b.now c.now → RewritesTables g b.now c.now) → IsTransactionStep {X = Unit {0}} {E = E} (Ok tt) (RewritesTables (λ h. g (f h))) a c
two_steps f g a b c first next one two = step_then a b c first next (λ clean p q. edits_then f g a.now b.now c.now (one p) (two q))

-- four steps in sequence
pub four_steps : {W X Y Z E : Type 0} {w : W} {x : X} {y : Y} {First Next Third Last : Database → Database → Type 0} (f g k l : History → History) (a b c d e : State) (r : Result Z E)
    → IsTransactionStep {X = W} {E = E} (Ok w) First a b → IsTransactionStep {X = X} {E = E} (Ok x) Next b c → IsTransactionStep {X = Y} {E = E} (Ok y) Third c d → IsTransactionStep r Last d e
    → (First a.now b.now → RewritesTables f a.now b.now) → (Next b.now c.now → RewritesTables g b.now c.now) → (Third c.now d.now → RewritesTables k c.now d.now) → (Last d.now e.now → RewritesTables l d.now e.now)
    → IsTransactionStep r (RewritesTables (λ h. l (k (g (f h))))) a e
four_steps {Y = Y} {E = E} {y = y} f g k l a b c d e r first next third last one two three four =
    let so_far : IsTransactionStep {X = Y} {E = E} (Ok y) (RewritesTables (λ h. k (g (f h)))) a d = three_steps f g k a b c d (Ok y) first next third one two three in
    step_after a d e r so_far last (λ clean p q. edits_then (λ h. k (g (f h))) l a.now d.now e.now p (four q))

-- the moment is written last
pub versioned : (laws : TableChangesKeepHistory) (change : Change) (before : ℕ) (stamp : ℤ) (a b c : Database) → RewritesTables (written_history before change stamp) a b → InsertsMoment (record { stamp = stamp; next = change.next }) b c → WritesChange change before stamp a c
versioned laws change before stamp a b c first moment = record {
  schema = moment.schema ∙ first.schema;
  held = λ moments h holds.
      let was = first.held moments h holds in
      laws.moments b.trees c.trees moments (record { stamp = stamp; next = change.next } ∷ moments) (written_history before change stamp h) was moment.kept (moment.told moments was.the_moments);
  editions = λ es tells. editions_kept table.moments b.trees c.trees (λ e. absurd (omega arith)) moment.kept es (first.editions es tells);
}
