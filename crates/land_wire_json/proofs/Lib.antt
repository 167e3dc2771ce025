-- Lemmas of the register's JSON.
pub mod CompactTexts
pub mod ContentReading
pub mod ContentTexts
pub mod DecimalLemmas
pub mod ExactTexts
pub mod ObjectTexts
pub mod OutlineTexts
pub mod PartyTexts
pub mod SameFields
pub mod SameTexts
pub mod ShareReading
pub mod ShareTexts
pub mod Steps
pub mod WellFormed
