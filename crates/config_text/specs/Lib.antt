pub mod Fault
pub mod Address
pub mod Column
pub mod Table
pub mod Reader
