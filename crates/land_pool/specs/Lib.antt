-- Many connections that are served at once.
pub mod Endings
pub mod Interleaving
pub mod OpenConnections
