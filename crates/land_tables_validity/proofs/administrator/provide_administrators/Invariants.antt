use Rattle.std.proofs.Common.{◌≡◌, ◌++◌, take}
use Rattle.land_tables_validity.specs.Administrator.{provided_administrators}
use Rattle.land_tables_validity.proofs.administrator.provide_administrators.Given as goal

abbrev pub invariant-loop-role : goal.invariant-loop-role
invariant-loop-role l = l.coverage_spans.items ≡ l.fn.coverage_spans.items ++ provided_administrators (take l.role-index l.roles)
