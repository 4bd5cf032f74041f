-- The entries: slots and their free list, lines, shares, and what an entry that comes, stays or goes leaves of all of them.
pub mod Linked
pub mod SlotsLemmas
pub mod Threaded
pub mod SoundLemmas
pub mod Entering
pub mod Leaving
pub mod Dropping
pub mod Renewing
pub mod OpenedLemmas
pub mod Passing
pub mod Sweeping
pub mod Admitting
pub mod Replacing
pub mod Admissions
