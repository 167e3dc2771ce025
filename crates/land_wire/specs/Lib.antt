-- Definitions of requests and replies.
pub mod Acts
pub mod Fields
pub mod Framing
pub mod Laws
pub mod Numbers
pub mod Queries
pub mod Reading
pub mod Replies
pub mod ReplyLimits
pub mod Routes
