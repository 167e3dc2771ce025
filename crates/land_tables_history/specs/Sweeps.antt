-- Definitions of coverage, of values that are current together, and of disjoint spans.
pub mod Apart
pub mod ApartSteps
pub mod Cover
pub mod CoverSteps
pub mod Sweep
pub mod SweepSteps
