-- Basic administrative units (LA_BAUnit).
pub mod Reading
pub mod Writing
