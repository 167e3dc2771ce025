-- Links of mutations to units.
pub mod Reading
pub mod Writing
