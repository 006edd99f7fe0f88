-- The definitions that the contracts and theorems of this crate cite.
pub mod Claim
pub mod Encoding
pub mod Encoded
pub mod Runs
