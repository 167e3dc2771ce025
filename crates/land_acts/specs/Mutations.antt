-- The definitions of the contents of mutations.
pub mod Areas
pub mod ByContent
pub mod Discharging
pub mod Grounds
pub mod Merging
pub mod Mortgaging
pub mod Numbering
pub mod Planning
pub mod Subdividing
pub mod TransferLaws
pub mod Transferring
