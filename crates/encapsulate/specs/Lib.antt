pub mod Emission
pub mod Fitting
pub mod Flow
pub mod Packet
pub mod Remote
pub mod Sender
pub mod Sums
-- the words of the crates below that the clauses here cite
pub use Rattle.overlay.specs.Flood
pub use Rattle.overlay.specs.Overlay
pub use Rattle.overlay.specs.UnderlaySettings
