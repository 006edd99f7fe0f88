-- What the contracts of `digits` cite beside the model: lines and bytes as text, and closed cases of the latter.
pub mod Line
pub mod Hexadecimal
pub mod Examples
