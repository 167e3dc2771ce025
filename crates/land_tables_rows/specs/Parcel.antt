-- Parcels: labels and outlines (LA_SpatialUnit).
pub mod Cells
pub mod Reading
pub mod Writing
