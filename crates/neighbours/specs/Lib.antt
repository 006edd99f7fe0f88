-- The definitions that the contracts of this crate cite.
pub mod Chose
pub mod Selects
