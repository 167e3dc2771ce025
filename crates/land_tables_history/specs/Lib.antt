-- Definitions of the register at a moment, and of the effect of a change.
pub mod Changed
pub mod Groups
pub mod History
pub mod Intervals
pub mod ValidHistory
pub mod Laws
pub mod Moments
pub mod Open
pub mod Pairs
pub mod Spans
pub mod Standing
pub mod Sweeps
pub mod Written
