pub mod Objects
pub mod Writing
pub mod Onlooking
pub mod Run
