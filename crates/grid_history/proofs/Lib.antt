-- The claims over every list of calls, of the Esri ASCII grid and of the grid file after it, and the facts that they rest on.
pub mod ClaimLaws
pub mod Texts
pub mod Files
pub mod FarOff
