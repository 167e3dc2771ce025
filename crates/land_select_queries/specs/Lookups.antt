-- Definitions of lookups: their results, their SQL statements, and the parts of a register that they return.
pub mod RecordRows
pub mod Numbered
pub mod Numbers
pub mod Parties
pub mod Parts
pub mod Ranges
pub mod Viewers
pub mod Texts
