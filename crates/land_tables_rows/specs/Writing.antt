-- Definitions of the tables' content, by the decoded rows.
pub mod History
pub mod Holding
pub mod Laws
pub mod NewHistory
