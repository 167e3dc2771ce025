use Rattle.std.proofs.Common.{map, string_bytes, subst, sym}
use Rattle.land_commands.proofs.FaultlessWords.{named_by_words}
use Rattle.land_commands.specs.Words.Names.{IsCommandIn}
use Rattle.land_commands.proofs.words.parse.read_words.Goals as goal

pub unreachable-requires : goal.unreachable-requires
unreachable-requires c =
    let named = named_by_words c.all_choices.result c.all_choices.ensures (map string_bytes c.args.words.now) c.in-Ok.ensures.kinds in
    c.in-None.ensures named.0 (subst (λ o. IsCommandIn o named.0) (sym c.in-Ok.ensures.found) named.1.found)
