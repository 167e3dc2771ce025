use Rattle.std.proofs.Common.{Err, Ok}
use Rattle.land_tables.proofs.Adopted.{misses, passes}
use Rattle.land_tables.specs.Registers.{version_2}
use Rattle.land_tables_schema.proofs.Looking.{look_told}
use Rattle.sqlite.specs.Held.{state}
use Rattle.land_tables.proofs.opening.validate_v2.Goals as goal

pub returns-in-Ok-clause-reads_only : goal.returns-in-Ok-clause-reads_only
returns-in-Ok-clause-reads_only g c =
    let a = state g.S.Store c.args.conn.now in
    look_told a (state g.S.Store c.read_store_v2.new.conn) (Ok (c.in_ok-found.found, c.in-Ok.latest)) c.in_ok-found.ensures.reads_only
    (λ clean it. record {
      register = passes c.valid_histories_represent_timelines.ensures c.histories_represent_one_timeline.ensures c.order_does_not_matter.ensures c.the_last_moment_is_the_last_stamp.ensures
          c.sound_timelines_are_valid.ensures c.order_keeps_intervals.ensures version_2 a.now it.made c.in_ok-found.found it.finds c.in-Ok.latest c.in-Ok.ensures.judged;
      finds = it.finds;
    })

pub returns-in-Ok-clause-passes : goal.returns-in-Ok-clause-passes
returns-in-Ok-clause-passes g c = c.in-Ok.ensures.judged.passes

pub returns-in-Err-clause-reads_only : goal.returns-in-Err-clause-reads_only
returns-in-Err-clause-reads_only g c =
    look_told (state g.S.Store c.args.conn.now) (state g.S.Store c.read_store_v2.new.conn) (Err c.in-Err.fault) c.in_ok-found.ensures.reads_only (λ _ _. tt)

pub returns-in-Err-clause-refused : goal.returns-in-Err-clause-refused
returns-in-Err-clause-refused g c clean =
    let a = state g.S.Store c.args.conn.now in
    let it = c.in_ok-found.ensures.reads_only.given clean in
    misses c.valid_histories_represent_timelines.ensures c.histories_represent_one_timeline.ensures c.order_does_not_matter.ensures c.the_last_moment_is_the_last_stamp.ensures
    c.sound_timelines_are_valid.ensures c.order_keeps_intervals.ensures version_2 a.now it.made c.in_ok-found.found it.finds c.in-Err.fault c.in-Err.ensures.judged
