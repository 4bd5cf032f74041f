pub mod Orders
pub mod KnownEvents
pub mod Records
pub mod Telling
