-- Moments at which the register changed.
pub mod Reading
pub mod Writing
