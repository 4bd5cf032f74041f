pub mod Asking
pub mod Events
pub mod Finding
pub mod Tables
