-- The first that holds, of a table of answers and tests, which frame_view has.
pub use Rattle.wire.specs.First.{first, fault_of}
