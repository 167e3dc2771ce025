use Rattle.std.proofs.Common.{rules}
use Rattle.land_tables_schema.proofs.KnownSchemas.{may_be}
use Rattle.land_tables_schema.proofs.schema_v1.may_be_register_schema.Goals as goal

pub returns-then-constrain_no_rows_of : goal.returns-then-constrain_no_rows_of
returns-then-constrain_no_rows_of c = may_be c.args.schema.now c.is_empty.result (search rules) (search rules) (search rules) (search rules)
