pub mod Below
pub mod Cells
pub mod Boxes
pub mod Names
pub mod Lines
pub mod Holes
