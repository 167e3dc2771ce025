-- Roles of parties.
pub mod Reading
pub mod Writing
