-- Definitions of sheets and extracts.
pub mod Appending
pub mod Areas
pub mod Dates
pub mod Extracts
pub mod Laws
pub mod Rows
pub mod Sheets
pub mod Widths
pub mod Words
