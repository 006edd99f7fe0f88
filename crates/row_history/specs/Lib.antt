-- The definitions that the theorems of this crate cite.
pub mod RowRuns
pub mod ClaimRows
