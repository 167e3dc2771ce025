-- Definitions of the numbers that an act refers to, and of the parts of a register that are read for it.
pub mod Gathered
pub mod Named
