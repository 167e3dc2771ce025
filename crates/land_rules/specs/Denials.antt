-- Verdicts from few records: from the evidence, from interests, and from the visibility of an object.
pub mod Interests
pub mod Sight
pub mod Standing
