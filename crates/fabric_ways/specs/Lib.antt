pub mod Hops
pub mod Labels
pub mod Leads
pub mod Members
pub mod Networks
pub mod Picture
pub mod Rows
