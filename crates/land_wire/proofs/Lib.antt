-- Lemmas on requests and replies.
pub mod ActNames
pub mod FieldNames
pub mod FrameLemmas
pub mod ItemLemmas
pub mod ListingLemmas
pub mod Readings
pub mod ReplyTexts
pub mod RouteLemmas
pub mod RouteNames
pub mod RouteTable
pub mod SameReplies
pub mod StreamLemmas
pub mod TargetLemmas
pub mod WellFormed
