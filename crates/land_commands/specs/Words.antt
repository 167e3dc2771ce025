-- Definitions of the arguments of the command line.
pub mod Choices
pub mod Commands
pub mod Laws
pub mod Names
pub mod Options
pub mod PlainCommands
