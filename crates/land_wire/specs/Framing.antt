-- Definitions of streams and their items.
pub mod Frame
pub mod FrameFaults
pub mod Items
pub mod Reads
pub mod Stream
pub mod Target
