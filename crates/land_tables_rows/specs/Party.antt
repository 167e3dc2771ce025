-- Parties (LA_Party).
pub mod Reading
pub mod Writing
