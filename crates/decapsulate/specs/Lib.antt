pub mod Arrival
pub mod Card
-- the words of the crates below that the clauses here cite
pub use Rattle.wire.specs.First
pub use Rattle.wire.specs.Frame
pub use Rattle.wire.specs.Octets
