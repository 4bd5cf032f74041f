pub mod Left
pub mod Memory
