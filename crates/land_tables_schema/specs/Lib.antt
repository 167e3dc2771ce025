-- Definitions of the register's tables.
pub mod Columns
pub mod Connections
pub mod Definitions
pub mod Schemas
pub mod Laws
pub mod Making
pub mod Rows
pub mod Shapes
pub mod Steps
pub mod Tables
