-- Lemmas about streams and serving.
pub mod Asking
pub mod ExchangeLemmas
pub mod Honesty
pub mod KnownNext
pub mod Moving
pub mod ResponseLemmas
pub mod ServingLemmas
pub mod StoreHeads
pub mod TurnLemmas
pub mod Turns
