-- The definitions that the contracts of this crate cite.
pub mod StateOf
pub mod Replies
pub mod LookedUp
