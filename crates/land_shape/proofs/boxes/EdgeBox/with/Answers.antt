use Rattle.land_shape.specs.Simple.{place_of}
use Rattle.land_shape.proofs.BoxLemmas.{stretched-holds, stretched-still}
use Rattle.land_shape.proofs.boxes.EdgeBox.with.Goals as goal

pub returns-clause-holds : goal.returns-clause-holds
returns-clause-holds c =
    stretched-holds (place_of c.args.self.least) (place_of c.args.self.greatest) _ _ _
    (record { left = c.lesser.ensures.x; right = c.greater.ensures.x; below = c.lesser.ensures.y; above = c.greater.ensures.y })

pub returns-clause-still : goal.returns-clause-still
returns-clause-still c =
    stretched-still (place_of c.args.self.least) (place_of c.args.self.greatest) (place_of c.args.point) _ _
    (record { left = c.lesser.ensures.x; right = c.greater.ensures.x; below = c.lesser.ensures.y; above = c.greater.ensures.y })
