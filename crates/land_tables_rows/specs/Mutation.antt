-- Mutations: their content and their state.
pub mod Cells
pub mod Reading
pub mod Writing
