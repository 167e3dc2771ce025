-- The act is among those that were not compared yet.
use Rattle.std.proofs.Common.{◌≡◌, drop, bytes_eq}
use Rattle.std.specs.List.{find}
use Rattle.land_wire.specs.Routes.ActWords.{act_word}
use Rattle.land_wire.proofs.routes.act_word.act_among.Given as goal

abbrev pub invariant-loop-act : goal.invariant-loop-act
invariant-loop-act l =
    find (λ act. bytes_eq l.bytes (act_word act)) l.acts ≡ find (λ act. bytes_eq l.bytes (act_word act)) (drop l.act-index l.acts)
