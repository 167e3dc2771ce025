use Rattle.land_tables_rows.proofs.Streaming.{after_fault, after_row, after_wrong}
use Rattle.land_tables_rows.proofs.listing.reading.read_next.Goals as goal

pub returns-in_err-all : goal.returns-in_err-all
returns-in_err-all g c rows earlier =
    after_fault g.X.FromRow.said rows c.args.row.now c.args.earlier c.from_residual.result c.in_err-all.field-0.0 c.in_err-all.was earlier c.from_residual.ensures.1

pub returns-in_err-from_row : goal.returns-in_err-from_row
returns-in_err-from_row g c rows earlier =
    after_wrong g.X.FromRow.said rows c.args.row.now c.args.earlier c.from_residual-in_err-from_row.result c.in_ok-all.all c.in_err-from_row.field-0.0 c.in_ok-all.was earlier c.in_err-from_row.ensures
    c.from_residual-in_err-from_row.ensures.1

pub returns : goal.returns
returns g c rows earlier =
    after_row g.X.FromRow.said rows c.args.row.now c.args.earlier c.in_ok-all.all c.push.new.self c.in_ok-from_row.field-0 c.in_ok-all.was earlier c.in_ok-from_row.ensures c.in_ok-push.ensures.ok
