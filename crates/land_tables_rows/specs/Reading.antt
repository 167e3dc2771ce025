-- Definitions of how the rows of the tables decode.
pub mod Cells
pub mod Readings
pub mod Words
