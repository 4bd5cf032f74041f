pub mod Forms
pub mod Objects
pub mod Outcomes
pub mod Pieces
pub mod Puts
pub mod ReadBack
pub mod Telling
pub mod Texts
