-- Definitions of the rows of the register's tables, and of the statements that read and write them.
pub mod Edition
pub mod Forms
pub mod Held
pub mod ReadQueries
pub mod Mandate
pub mod Member
pub mod Moments
pub mod Mutation
pub mod Names
pub mod Parcel
pub mod Party
pub mod SchemaMigration
pub mod Role
pub mod Rrr
pub mod Source
pub mod Unit
pub mod Versions
