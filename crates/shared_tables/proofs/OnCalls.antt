-- The calls: the tables that the slots stand for, what a call answers and leaves of them, its work, and listings.
pub mod Tabled
pub mod SegmentsLemmas
pub mod CallLemmas
pub mod WorkLemmas
pub mod Steps
pub mod Answering
pub mod Counting
pub mod Knowing
pub mod StandingLemmas
pub mod Lining
pub mod Slotwise
pub mod ListingLemmas
pub mod Worded
