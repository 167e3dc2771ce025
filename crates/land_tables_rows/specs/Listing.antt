-- Definitions of the rows of all tables, decoded.
pub mod Faults
pub mod Groups
pub mod Reading
pub mod Statements
pub mod Told
