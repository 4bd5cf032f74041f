mod Changing
mod Bringing
mod Causes
mod Counts
mod Forgetting
mod Inputs
mod Leaving
mod Once
mod Others
pub mod Runts
mod Sending
mod Settled
mod Turns
mod Untagging
mod Waiting
mod Windows
