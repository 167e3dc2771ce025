-- Decoding the tables by several reads.
use Rattle.std.proofs.Common.{Ok, Err, List, Result, IfErr, refl, subst}
use Rattle.land_core.specs.declared.mandates.Mandate.{Mandate}
use Rattle.land_tables.specs.TableContents.{ReadsMandates, ReadsTablesV1, DecodesRowsV1}
use Rattle.land_tables.specs.declared.table_contents.TableContents.{TableContents}
use Rattle.land_tables_history.specs.declared.history.History.{History}
use Rattle.land_tables_history.specs.declared.version.Version.{Version}
use Rattle.land_tables_rows.specs.Listing.Reading.{UnreadableOnlyIfNone, Says, DecodesHistoryV1, mandates}
use Rattle.land_tables_rows.specs.Rowids.{HaveUniqueRowidsV1, HasUniqueRowids}
use Rattle.land_tables_rows.specs.declared.listing.fault.ReadFault.{ReadFault}
use Rattle.land_tables_schema.proofs.Looking.{look_fails, look_then, was_clean}
use Rattle.land_tables_schema.specs.Rows.ReadQueries.{IsStoreRead}
use Rattle.land_tables_schema.specs.Tables.{mandate}
use Rattle.sqlite.specs.State.{HasCleanDisk, State}
use Rattle.sqlite_trees.specs.Tree.{Trees}

-- a value of all rows contains a history
pub history_said : (db : Trees) (found : TableContents) → DecodesRowsV1 db found → (it : History) × DecodesHistoryV1 db it
history_said db found said = (found.history, said.history)

-- rows are read after their rowids
module _ {E : Type 0} (a b c : State) (first : IsStoreRead {X = Unit {0}} {E = E} (Ok tt) (λ _. HaveUniqueRowidsV1 a.now.trees) a b) where
  pub found_then : (r : Result TableContents ReadFault) → IsStoreRead r (DecodesRowsV1 b.now.trees) b c → IsStoreRead r (ReadsTablesV1 a.now.trees) a c
  found_then (Ok found) next = look_then a b c first next (λ _ same keyed said. record { said = subst (λ db. DecodesRowsV1 db.trees found) same said; keyed = keyed })
  found_then (Err fault) next = look_fails a b c (Err fault) refl first next

  pub unsaid_then : (r : Result TableContents ReadFault) → IsStoreRead r (DecodesRowsV1 b.now.trees) b c → HasCleanDisk c → IfErr r (UnreadableOnlyIfNone (DecodesRowsV1 b.now.trees)) → IfErr r (UnreadableOnlyIfNone (DecodesRowsV1 a.now.trees))
  unsaid_then (Ok found) next clean none = tt
  unsaid_then (Err fault) next clean none = subst (λ db. UnreadableOnlyIfNone (DecodesRowsV1 db.trees) fault) (first.same (was_clean b c next.survives clean)).0.now_is none

-- and so are the mandates
module _ {E : Type 0} (a b c : State) (first : IsStoreRead {X = Unit {0}} {E = E} (Ok tt) (λ _. HasUniqueRowids mandate a.now.trees) a b) where
  pub mandates_then : (r : Result (List (Version Mandate)) ReadFault) → IsStoreRead r (Says mandates b.now.trees) b c → IsStoreRead r (ReadsMandates a.now.trees) a c
  mandates_then (Ok listed) next = look_then a b c first next (λ _ same keyed said. record { said = subst (λ db. Says mandates db.trees listed) same said; keyed = keyed })
  mandates_then (Err fault) next = look_fails a b c (Err fault) refl first next

  pub unlisted_then : (r : Result (List (Version Mandate)) ReadFault) → IsStoreRead r (Says mandates b.now.trees) b c → HasCleanDisk c → IfErr r (UnreadableOnlyIfNone (Says mandates b.now.trees)) → IfErr r (UnreadableOnlyIfNone (Says mandates a.now.trees))
  unlisted_then (Ok listed) next clean none = tt
  unlisted_then (Err fault) next clean none = subst (λ db. UnreadableOnlyIfNone (Says mandates db.trees) fault) (first.same (was_clean b c next.survives clean)).0.now_is none
