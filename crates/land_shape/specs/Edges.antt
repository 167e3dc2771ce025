-- Edges of the code as edges of the definitions
use Rattle.std.specs.Prelude.{List, map}
use Rattle.land_shape.specs.declared.edges.Edge as code
use Rattle.land_shape.specs.Place.{Edge}
use Rattle.land_shape.specs.Simple.{place_of}

-- the start and the end of an edge
abbrev pub edge_of : code.Edge → Edge
edge_of e = record { from = place_of e.from; to = place_of e.to }

-- the same of each edge of a list
abbrev pub edges : List code.Edge → List Edge
edges es = map edge_of es
