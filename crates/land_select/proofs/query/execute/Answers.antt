use Rattle.std.proofs.Common.{false, rules, ◌≡◌, ◌≢◌}
use Rattle.land_keep.specs.declared.store_fault.StoreFault.TheVariants.{Store}
use Rattle.land_tables.proofs.Written.{whole_read}
use Rattle.land_select.proofs.query.execute.Goals as goal

pub invariant_of-tables-in-Err : goal.invariant_of-tables-in-Err
invariant_of-tables-in-Err g c =
    let other : c.eq-tables-inside.result ≡ false → c.in-Err.fault ≢ Store = search rules in
    whole_read g.S.Store _ c.tables.invariant c.if-tables.false c.execute_in.new.conn c.eq-tables-inside.result (c.in-Err.ensures.autocommit c.tables.invariant.alone) c.in-Err.fault _ other c.in-Err.ensures.safe
