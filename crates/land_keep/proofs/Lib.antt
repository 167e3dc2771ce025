mod OpenKeepers
pub mod Past
pub mod Steps
pub mod Timelines
pub mod TwoRegisters
pub mod Unseen
pub mod WholeShares
