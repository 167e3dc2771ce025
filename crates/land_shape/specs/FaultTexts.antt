-- The numbers and the messages of the faults
use Rattle.std.specs.Prelude.{ℕ, List, codes}
use Rattle.land_shape.specs.declared.faults.ShapeFault.{ShapeFault}
use Rattle.land_shape.specs.declared.faults.ShapeFault.TheVariants.{NotPolygon, Empty, Inner, ZOrM, Number}
use Rattle.land_shape.specs.declared.faults.ShapeFault.TheVariants.{Range, FewPoints, ManyPoints, NotClosed}
use Rattle.land_shape.specs.declared.faults.ShapeFault.TheVariants.{NotSimple, AreaTooLarge, NoMemory}

abbrev pub shape_fault_number : ShapeFault → ℕ
shape_fault_number NotPolygon = 110
shape_fault_number Empty = 111
shape_fault_number Inner = 112
shape_fault_number ZOrM = 113
shape_fault_number Number = 114
shape_fault_number Range = 115
shape_fault_number FewPoints = 116
shape_fault_number ManyPoints = 117
shape_fault_number NotClosed = 118
shape_fault_number NotSimple = 119
shape_fault_number AreaTooLarge = 120
shape_fault_number NoMemory = 501

abbrev pub shape_fault_text : ShapeFault → List ℕ
shape_fault_text NotPolygon = codes "the outline is not a POLYGON in well-known text"
shape_fault_text Empty = codes "the outline is EMPTY"
shape_fault_text Inner = codes "the outline has more than one ring"
shape_fault_text ZOrM = codes "the outline has Z or M: a point is two numbers"
shape_fault_text Number = codes "a coordinate is not a whole number of millimetres"
shape_fault_text Range = codes "a coordinate is more than 10000000000 millimetres from 0"
shape_fault_text FewPoints = codes "the outline lists fewer than 4 points"
shape_fault_text ManyPoints = codes "the outline lists more than 201 points"
shape_fault_text NotClosed = codes "the outline does not end at its first point"
shape_fault_text NotSimple = codes "the outline touches or crosses itself, or has no area"
shape_fault_text AreaTooLarge = codes "the outline has a doubled area above 1000000000000000000"
shape_fault_text NoMemory = codes "memory ran out"
