-- Definitions of the cells in which records are written.
pub mod Closable
pub mod Laws
pub mod Texts
