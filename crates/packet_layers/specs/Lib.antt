pub mod Apart
pub mod Code
pub mod Dissection
pub mod Laws
pub mod Text
pub mod Values
-- the words of the crates below that the clauses here cite
pub use Rattle.wire.specs.First
pub use Rattle.wire.specs.Octets
