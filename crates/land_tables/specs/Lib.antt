-- Definitions of the register's timeline in tables.
pub mod Adopting
pub mod Calls
pub mod Digests
pub mod Faults
pub mod TableContents
pub mod Migrating
pub mod TablesState
pub mod Registers
pub mod Standing
pub mod Timelines
