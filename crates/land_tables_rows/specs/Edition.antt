-- The edition of the tables.
pub mod Reading
pub mod Writing
