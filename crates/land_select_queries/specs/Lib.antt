-- Definitions of queries on the tables: what a caller sees, SQL statements with their meaning, and lookups.
pub mod Joins
pub mod Lookups
pub mod Sights
pub mod TableReads
