use Rattle.land_wire.proofs.StreamLemmas.{no_overflow}
use Rattle.land_wire.proofs.framing.head.parse_head.Goals as goal

pub unreachable-requires : goal.unreachable-requires
unreachable-requires c =
    let over = c.in-Err-TooManyHeaders.ensures.too_many (cc) in
    no_overflow c.args.window.now over.0 over.1 over.3 _ over.2 c.requires.small over.4 c.requires.room over.5
