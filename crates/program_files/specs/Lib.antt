pub mod Asked
pub mod Device
pub mod Found
pub mod Held
pub mod Opened
pub mod Status
pub mod Text
