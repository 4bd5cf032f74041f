pub mod Name
pub mod Reading
pub mod Sought
pub mod Names
pub mod Report
pub mod Onlooker
