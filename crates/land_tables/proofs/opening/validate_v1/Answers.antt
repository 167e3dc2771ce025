use Rattle.land_tables.proofs.Adopted.{to_refusal, to_register}
use Rattle.land_tables.specs.Registers.{version_1}
use Rattle.land_tables_schema.proofs.Looking.{look_told}
use Rattle.sqlite.specs.Held.{state}
use Rattle.land_tables.proofs.opening.validate_v1.Goals as goal

pub returns-clause-reads_only : goal.returns-clause-reads_only
returns-clause-reads_only g c =
    let a = state g.S.Store c.args.conn.now in
    look_told a (state g.S.Store c.read_store_v1.new.conn) c.validate.result c.in_ok-found.ensures.reads_only
    (λ clean it. to_register c.valid_histories_represent_timelines.ensures c.histories_represent_one_timeline.ensures c.order_does_not_matter.ensures c.the_last_moment_is_the_last_stamp.ensures
    c.sound_timelines_are_valid.ensures c.order_keeps_intervals.ensures version_1 a.now it.made c.in_ok-found.found it.finds c.validate.result c.validate.ensures.judged)

pub returns-clause-refused : goal.returns-clause-refused
returns-clause-refused g c clean =
    let a = state g.S.Store c.args.conn.now in
    let it = c.in_ok-found.ensures.reads_only.given clean in
    to_refusal c.valid_histories_represent_timelines.ensures c.histories_represent_one_timeline.ensures c.order_does_not_matter.ensures c.the_last_moment_is_the_last_stamp.ensures
    c.sound_timelines_are_valid.ensures c.order_keeps_intervals.ensures version_1 a.now it.made c.in_ok-found.found it.finds c.validate.result c.validate.ensures.judged
