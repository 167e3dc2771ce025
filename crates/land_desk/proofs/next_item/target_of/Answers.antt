use Rattle.std.specs.Prelude.{IsUtf8}
use Rattle.std.proofs.Common.{sym, subst}
use Rattle.land_desk.proofs.next_item.target_of.Goals as goal

pub unreachable-requires : goal.unreachable-requires
unreachable-requires c =
    let at = c.requires.1.1 in
    c.in-Err.ensures.cases.0 (subst IsUtf8 (sym c.of.ensures) (subst IsUtf8 (sym at.path) at.reads.0.target_text))
