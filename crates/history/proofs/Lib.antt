-- The claim over every list of calls, and the facts that it rests on.
pub mod ClaimLaws
pub mod Turns
pub mod Every
pub mod Runs
pub mod Archive
pub mod FarOff
