-- Definitions of the selections' SQL statements, their meaning and their results.
pub mod Meaning
pub mod Execution
pub mod Sight
pub mod Texts
