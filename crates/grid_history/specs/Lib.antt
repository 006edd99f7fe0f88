-- The claim that the theorems of this crate show.
pub mod ClaimText
