-- The entries of units: rights, restrictions, responsibilities and mortgages (LA_RRR).
pub mod Cells
pub mod Reading
pub mod Writing
