pub mod Marks
pub mod Splits
pub mod Decimals
pub mod Fronts
pub mod Telling
