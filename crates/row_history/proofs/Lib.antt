-- The claim over every list of calls, begins and rows, and the facts that it rests on.
pub mod CellsAreRight
pub mod RunLaws
pub mod Rows
pub mod AsCalls
