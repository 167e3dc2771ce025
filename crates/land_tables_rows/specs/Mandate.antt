-- Mandates that parties have given.
pub mod Reading
pub mod Writing
