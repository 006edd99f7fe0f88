-- The closed cases, proved.
pub mod Examples
