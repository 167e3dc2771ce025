-- Definitions of the JSON texts of objects and contents.
pub mod Exact
pub mod Fields
pub mod Laws
pub mod Limits
pub mod Mergers
pub mod Mutations
pub mod Objects
pub mod Parcels
pub mod Parties
pub mod Rrrs
pub mod Sources
pub mod Subdivisions
pub mod Units
pub mod Values
