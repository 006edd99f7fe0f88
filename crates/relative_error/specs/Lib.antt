-- The definitions that the contracts and the laws of this crate cite.
pub mod Close
