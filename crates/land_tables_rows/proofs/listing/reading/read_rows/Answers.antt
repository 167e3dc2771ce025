use Rattle.std.proofs.Common.{rules, subst, sym, refl, ◌∙◌, List, [], ◌∷◌, ◌++◌}
use Rattle.land_tables_rows.proofs.Streaming.{begun, counts, ended, ended_unreadable, goes_on, lost, refused, stopped}
use Rattle.land_tables_rows.specs.Listing.Reading.{IsRead, Says}
use Rattle.land_tables_rows.specs.Reading.Readings.{each_row}
use Rattle.land_tables_rows.specs.declared.listing.fault.ReadFault.TheVariants.{NoMemory}
use Rattle.land_tables_schema.specs.Rows.ReadQueries.{IsStoreRead}
use Rattle.land_wire_json.specs.Bodies.WireFaults.{Returns}
use Rattle.sqlite.specs.Held.{state}
use Rattle.sqlite.specs.State.{HasCleanDisk, State}
use Rattle.sqlite_value.specs.Order.{Row}
use Rattle.land_tables_rows.proofs.listing.reading.read_rows.Goals as goal

pub returns-in_err-rows-clause-reads_only : goal.returns-in_err-rows-clause-reads_only
returns-in_err-rows-clause-reads_only g c =
    let now = c.query.follows.lender-at-none in
    let held = rw c.in_err-rows.was at c.query.follows.holds-at-none in
    let r = c.from_residual.result in
    let it : IsStoreRead r (Says g.X.Listed.listing (state g.S.Store c.args.conn.now).now.trees) (state g.S.Store c.args.conn.now) (state g.S.Store now) =
    refused g.S.Store g.X.Listed.has g.X.Listed.listing c.args.text.now c.requires.lists c.args.conn.now now c.requires.has_table held.survives c.in_err-rows.field-0.0 r c.from_residual.ensures.0 held.err in
    search rules

pub rows-init : goal.rows-init
rows-init g c =
    let made = c.in_ok-rows.ensures in
    (refl, rw c.new.ensures (begun g.S.Store g.X.Listed.has g.X.Listed.listing c.args.text.now c.requires.lists c.args.conn.now c.in_ok-rows.rows.conn.now c.requires.has_table made.survives made.begun made.mode))

pub returns-in_err-row-clause-reads_only : goal.returns-in_err-row-clause-reads_only
returns-in_err-row-clause-reads_only g c =
    let so_far = c.rows.invariant.1 in
    let moved = c.next.follows.holds-at-none in
    let now = c.next.follows.lender-at-none.conn.now in
    let kept = rw c.in_err-row.was at moved.kept in
    let r = c.from_residual-in_err-row.result in
    let it : IsStoreRead r (Says g.X.Listed.listing (state g.S.Store c.args.conn.now).now.trees) (state g.S.Store c.args.conn.now) (state g.S.Store now) =
    stopped g.S.Store g.X.Listed.has g.X.Listed.listing c.args.text.now c.requires.lists c.args.conn.now c.rows.rows.conn.now now c.rows.read c.in_err-row.field-0.0 r c.from_residual-in_err-row.ensures.0 so_far kept moved.survives in
    search rules

pub returns-in_err-count-clause-reads_only : goal.returns-in_err-count-clause-reads_only
returns-in_err-count-clause-reads_only g c =
    let so_far = c.rows.invariant.1 in
    let moved = c.next.follows.holds-at-none in
    let now = c.next.follows.lender-at-none.conn.now in
    let same = rw c.in_ok-row.was at moved.same in
    let r = c.from_residual-in_err-count.result in
    let it : IsStoreRead r (Says g.X.Listed.listing (state g.S.Store c.args.conn.now).now.trees) (state g.S.Store c.args.conn.now) (state g.S.Store now) =
    lost g.S.Store g.X.Listed.has g.X.Listed.listing c.args.text.now c.requires.lists c.args.conn.now c.rows.rows.conn.now now c.rows.read so_far same moved.survives r c.from_residual-in_err-count.ensures.0 in
    search rules

pub rows-smaller : goal.rows-smaller
rows-smaller g c = counts c.rows.count c.checked_add.result c.in_ok-count.count NoMemory c.checked_add.ensures (sym c.ok_or.ensures.value ∙ c.in_ok-count.was)

pub rows-preserved : goal.rows-preserved
rows-preserved g c =
    let so_far = c.rows.invariant.1 in
    let moved = c.next.follows.holds-at-none in
    let now = c.next.follows.lender-at-none.conn.now in
    let gives = rw (c.in_ok-row.was, c.in-Some.is) at moved.ok in
    let same = rw c.in_ok-row.was at moved.same in
    let decoded : (rows : List Row) → Returns (λ it. it) c.rows.read (each_row g.X.Listed.listing.said rows) → Returns (λ it. it) c.read_next-read.result (each_row g.X.Listed.listing.said (rows ++ c.in-Some.row.now ∷ [])) =
    subst (λ said. (rows : List Row) → Returns (λ it. it) c.rows.read (each_row said rows) → Returns (λ it. it) c.read_next-read.result (each_row said (rows ++ c.in-Some.row.now ∷ []))) (sym g.met.X.Listed.says) c.read_next-read.ensures in
    let next = goes_on g.S.Store g.X.Listed.has g.X.Listed.listing c.args.text.now c.requires.lists c.args.conn.now c.rows.rows.conn.now now c.rows.read so_far same moved.survives c.in-Some.row.now c.read_next-read.result moved.mode gives decoded in
    (search rules, next)

pub returns-clause-reads_only : goal.returns-clause-reads_only
returns-clause-reads_only g c =
    let so_far = c.rows.invariant.1 in
    let moved = c.next.follows.holds-at-none in
    let now = c.next.follows.lender-at-none.conn.now in
    let gives = rw (c.in_ok-row.was, c.in_default.is) at moved.ok in
    let same = rw c.in_ok-row.was at moved.same in
    let concludes : (rows : List Row) → Returns (λ it. it) c.rows.read (each_row g.X.Listed.listing.said rows) → IsRead g.X.Listed.listing.said rows c.conclude.result =
    subst (λ said. (rows : List Row) → Returns (λ it. it) c.rows.read (each_row said rows) → IsRead said rows c.conclude.result) (sym g.met.X.Listed.says) c.conclude.ensures in
    let ReadsUntil : State → Type 0 = λ last. IsStoreRead c.conclude.result (Says g.X.Listed.listing (state g.S.Store c.args.conn.now).now.trees) (state g.S.Store c.args.conn.now) last in
    subst ReadsUntil (search rules)
    (ended g.S.Store g.X.Listed.has g.X.Listed.listing c.args.text.now c.requires.lists c.args.conn.now c.rows.rows.conn.now now c.rows.read so_far same moved.survives c.requires.has_table gives c.conclude.result concludes)

pub returns-clause-unreadable : goal.returns-clause-unreadable
returns-clause-unreadable g c clean =
    let so_far = c.rows.invariant.1 in
    let moved = c.next.follows.holds-at-none in
    let now = c.next.follows.lender-at-none.conn.now in
    let gives = rw (c.in_ok-row.was, c.in_default.is) at moved.ok in
    let same = rw c.in_ok-row.was at moved.same in
    let concludes : (rows : List Row) → Returns (λ it. it) c.rows.read (each_row g.X.Listed.listing.said rows) → IsRead g.X.Listed.listing.said rows c.conclude.result =
    subst (λ said. (rows : List Row) → Returns (λ it. it) c.rows.read (each_row said rows) → IsRead said rows c.conclude.result) (sym g.met.X.Listed.says) c.conclude.ensures in
    let late : HasCleanDisk (state g.S.Store now) = search rules in
    ended_unreadable g.S.Store g.X.Listed.has g.X.Listed.listing c.args.text.now c.requires.lists c.args.conn.now c.rows.rows.conn.now now c.rows.read so_far same moved.survives c.requires.has_table gives c.conclude.result concludes late
