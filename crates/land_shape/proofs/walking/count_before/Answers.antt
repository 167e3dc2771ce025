use Rattle.std.proofs.Common.{◌≡◌, true, false, arith, rules}
use Rattle.std.proofs.lemmas.List.Sorted.{IsPartitionPoint-from_clause}
use Rattle.land_shape.specs.declared.plane.Point.{Point}
use Rattle.land_shape.specs.Simple.{place_of}
use Rattle.land_shape.specs.Walks.{is_before}
use Rattle.land_shape.proofs.NearLemmas.{parted, all_taken, all_dropped}
use Rattle.land_shape.proofs.walking.count_before.Goals as goal

pub returns-clause-before : goal.returns-clause-before
returns-clause-before c =
    let t = place_of c.args.point in let xs = c.args.corners.now in
    let point = IsPartitionPoint-from_clause (λ (p : Point). is_before (place_of p) t) xs _ c.partition_point.ensures.partitioned (parted xs t c.requires) (λ a r q k. search rules) in
    all_taken (λ p. is_before p t ≡ true) xs c.partition_point.result (λ k d h. point.0 k d (omega arith) h)

pub returns-clause-others : goal.returns-clause-others
returns-clause-others c =
    let t = place_of c.args.point in let xs = c.args.corners.now in
    let point = IsPartitionPoint-from_clause (λ (p : Point). is_before (place_of p) t) xs _ c.partition_point.ensures.partitioned (parted xs t c.requires) (λ a r q k. search rules) in
    all_dropped (λ p. is_before p t ≡ false) xs c.partition_point.result (λ k d h l. point.1 k d h l)
