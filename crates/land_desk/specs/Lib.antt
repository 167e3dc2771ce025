-- Definitions of responses, streams and connections.
pub mod Keepers
pub mod Responses
pub mod Service
pub mod Serving
pub mod Turns
