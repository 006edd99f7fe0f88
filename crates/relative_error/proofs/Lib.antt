-- The laws of relative error, in the order in which they can be read.
pub mod Ratio
pub mod Rounding
pub mod Ranges
pub mod Laws
pub mod Compare
pub mod Whole
pub mod SumLaws
pub mod Bounds
pub mod Absolute
