-- Lemmas about the program.
pub mod BuiltCommands
pub mod Digests
pub mod FaultlessExtract
pub mod FaultlessWords
mod Filings
pub mod GivenOptions
pub mod NumberRows
pub mod PlainDigests
pub mod PlainExtracts
pub mod PlainWords
pub mod WalkKeeps
