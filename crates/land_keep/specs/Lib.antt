-- Definitions of the machine and of its keepers.
pub mod Faults
pub mod Keepers
pub mod Keeping
pub mod Laws
pub mod Machine
pub mod Moments
pub mod Named
pub mod Sheets
pub mod Timeline
