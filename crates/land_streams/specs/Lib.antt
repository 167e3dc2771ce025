-- Definitions of written texts.
pub mod Writing
