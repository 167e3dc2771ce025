-- Definitions of how request bodies and contents are read.
pub mod Decimals
pub mod Fields
pub mod Laws
pub mod Mutations
pub mod Outlines
pub mod Parties
pub mod Shares
pub mod Stored
pub mod Units
pub mod WireFaults
pub mod Words
