pub mod Asking
pub mod Listing
pub mod Naming
pub mod Onlooking
pub mod Seeking
