-- The records in a range of numbers are that part of the register.
use Rattle.std.proofs.Common.{◌≡◌, ℕ, ℤ, List, Result}
use Rattle.std.specs.FinMap.{FinMap}
use Rattle.std.specs.Ordering.{nat_cmp}
use Rattle.land_core.specs.Entries.{entries_where}
use Rattle.land_core.specs.declared.kind.Kind.{Kind}
use Rattle.land_core.specs.declared.register.Register.{Register}
use Rattle.land_select_queries.proofs.Parts.{part_found}
use Rattle.land_select_queries.proofs.Records.{all_wanted, can_be_read}
use Rattle.land_select_queries.specs.Joins.Execution.{HoldsNoHistory}
use Rattle.land_select_queries.specs.Lookups.RecordRows.{AreReadFrom, CannotBeRead, matching_versions}
use Rattle.land_select_queries.specs.Lookups.Numbered.{IsFoundWithin}
use Rattle.land_select_queries.specs.Lookups.Parts.{ReadsPart}
use Rattle.land_select_queries.specs.Lookups.Ranges.{AreRowsWithin, is_within}
use Rattle.land_tables_history.specs.Standing.{IsPartAt}
use Rattle.land_tables_history.specs.declared.version.Version.{Version}
use Rattle.land_tables_rows.specs.declared.listing.fault.ReadFault.{ReadFault}
use Rattle.land_wire_json.specs.declared.bodies.wire_fault.WireFault.{WireFault}
use Rattle.sqlite_trees.specs.Tree.{Trees}
use Rattle.sqlite_value.specs.Order.{Row}

module _ {V : Type 0} (said : Row → Result (Version (ℕ × V)) WireFault) (k : Kind) (part : Register → FinMap nat_cmp V) (by : IsFoundWithin said k part) (first last : ℕ) (t : ℤ) (db : Trees) where
  -- a result made from the decoded rows
  pub are_within : (found : List (Version (ℕ × V))) → AreReadFrom said (AreRowsWithin k first last t db) found
      → (it : FinMap nat_cmp V) → ((m : FinMap nat_cmp V) → IsPartAt t found m → it ≡ m) → ReadsPart (λ r. entries_where (λ n v. is_within first last n) (part r)) t db it
  are_within found read it made moments h held r have stands =
      let of = by db moments h held in
      made (entries_where (λ n v. is_within first last n) (part r))
      (part_found t (λ n v. is_within first last n) of.versions (part r) (of.stand t r stands) found
      (all_wanted said read.0 (matching_versions (λ e. is_within first last e.0) t of.versions) (of.found first last t read.0 read.1) found read.2))

  -- if they are unreadable, the tables hold no history
  pub none_within : (fault : ReadFault) → CannotBeRead said (AreRowsWithin k first last t db) fault → HoldsNoHistory db fault
  none_within fault cannot is moments h held =
      let of = by db moments h held in
      let no = cannot is in
      can_be_read said no.0 (matching_versions (λ e. is_within first last e.0) t of.versions) (of.found first last t no.0 no.1) no.2
