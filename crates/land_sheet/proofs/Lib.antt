-- Lemmas of sheets and extracts.
pub mod ExtractRows
pub mod OneDate
pub mod Puts
pub mod Standing
