use Rattle.std.proofs.Common.{◌≡◌, ◌↔◌, IsTrue}
use Rattle.std.proofs.lemmas.Result.{IfOk-weaker}
use Rattle.land_acts.proofs.SameGround.{told_by_matching}
use Rattle.land_acts.specs.Mutations.Grounds.{are_same_ground}
use Rattle.land_shape.specs.Matching.{Match}
use Rattle.land_acts.proofs.mutations.grounds.are_same_ground.Goals as goal

-- the outlines run counterclockwise, so they have the same ground exactly if they match
pub returns : goal.returns
returns c =
    let old = c.args.old.now in
    let new = c.args.new.now in
    IfOk-weaker c.chain_matches.result (λ b. IsTrue b ↔ Match old new) (λ b. b ≡ are_same_ground old new)
    (λ b tells. told_by_matching b old new c.run_counterclockwise.ensures c.run_counterclockwise-2.ensures tells)
    c.chain_matches.ensures
