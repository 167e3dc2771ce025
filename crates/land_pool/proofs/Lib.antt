-- Lemmas about connections that are served at once.
pub mod Accepting
pub mod Logs
pub mod Reading
pub mod Rounds
pub mod Sent
pub mod Turned
pub mod Turning
