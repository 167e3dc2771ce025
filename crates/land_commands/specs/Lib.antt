-- Definitions of the program.
pub mod Closing
pub mod Digesting
pub mod Extracting
pub mod Filed
pub mod Migrating
pub mod Program
pub mod ProgramFaults
pub mod CommandErrors
pub mod Words
