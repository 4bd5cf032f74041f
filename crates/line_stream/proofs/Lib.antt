pub mod Ends
mod Fills
