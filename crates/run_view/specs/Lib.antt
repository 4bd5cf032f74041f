pub mod Blocks
pub mod Told
pub mod View
pub mod Onlooking
pub mod Reading
pub mod Run
pub mod Left
