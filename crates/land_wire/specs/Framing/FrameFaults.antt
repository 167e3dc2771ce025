-- The numbers of framing faults.
use Rattle.std.specs.Prelude.{ℕ}
use Rattle.land_wire.specs.declared.framing.frame_fault.FrameFault.{FrameFault}
use Rattle.land_wire.specs.declared.framing.frame_fault.FrameFault.TheVariants.{Head, HeadLong, BodyLong}
use Rattle.land_wire.specs.declared.framing.frame_fault.FrameFault.TheVariants.{Encoding, Cut}

-- the number in the reply
abbrev pub frame_fault_number : FrameFault → ℕ
frame_fault_number Head = 140
frame_fault_number HeadLong = 141
frame_fault_number BodyLong = 142
frame_fault_number Encoding = 143
frame_fault_number Cut = 144
