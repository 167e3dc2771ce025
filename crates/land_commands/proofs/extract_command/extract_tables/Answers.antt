use Rattle.std.proofs.Common.{ℤ, of_z, rules, subst, subst₂, sym, to_z, w64, ◌≡◌}
use Rattle.std.specs.Prelude.{unwrap_or}
use Rattle.land_commands.specs.Extracting.{ExtractsTables}
use Rattle.land_keep.specs.Machine.{now_of}
use Rattle.land_keep.specs.Timeline.{register_at}
use Rattle.land_sheet.specs.Extracts.{extract_of, list_reply}
use Rattle.land_sheet.specs.Extracts.Writing.{IsExtracted}
use Rattle.land_tables.specs.TablesState.{held_timeline}
use Rattle.land_commands.proofs.extract_command.extract_tables.Goals as goal

-- the tables returned are those of the keeper
pub returns : goal.returns
returns g c =
    let S = g.S.Store in
    let call = c.extract_to-done in
    let wanted = c.args.wanted in
    let old = g.O.Write.contents c.args.output.now in
    let new = g.O.Write.contents call.new.writer in
    let tl = held_timeline S c.new-keeper.result in
    let alike : to_z w64 (of_z w64 wanted.clock) ≡ wanted.clock = search rules in
    subst₂ (λ from to. ExtractsTables S from wanted to old new call.result) c.new-keeper.ensures (sym c.into_tables.ensures) (record {
      was = call.ensures.was;
      same = call.ensures.same;
      closes = call.ensures.closes;
      extracts = λ honest. subst
          (λ (clock : ℤ). IsExtracted (list_reply clock wanted.caller wanted.kind wanted.at tl)
          (extract_of (register_at tl (unwrap_or wanted.at (now_of clock tl))) wanted.caller wanted.kind) old new call.result)
          alike (call.ensures.extracted honest);
    })
