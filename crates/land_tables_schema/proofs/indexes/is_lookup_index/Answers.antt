use Rattle.std.proofs.Common.{◌∙◌, ap}
use Rattle.land_tables_schema.proofs.Dropping.{any_now}
use Rattle.std.specs.List.{list_any}
use Rattle.sqlite_schema.specs.Names.{same_name}
use Rattle.land_tables_schema.proofs.indexes.is_lookup_index.Goals as goal

pub returns : goal.returns
returns c =
    c.is_named.ensures
    ∙ any_now (same_name c.args.index.now.name) c.lookup_index_names.result.now
    ∙ ap (list_any (same_name c.args.index.now.name)) c.lookup_index_names.ensures
