-- Definitions of the indexed keeper's results and verdicts, and the law on its SQL statements.
pub mod Results
pub mod Cache
pub mod KnownRoles
pub mod Laws
pub mod Listing
pub mod Parties
pub mod Slices
pub mod Verdicts
pub mod Views
