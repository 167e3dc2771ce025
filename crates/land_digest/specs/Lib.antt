-- Definitions of the text and the digest of a history.
pub mod Entries
pub mod Events
pub mod Fields
pub mod History
pub mod Known
pub mod Laws
pub mod Rows
pub mod Stamps
pub mod Versions
