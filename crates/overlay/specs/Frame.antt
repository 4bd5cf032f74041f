-- The words on frames, tags and refusals that this crate's clauses cite, which frame_view has.
pub use Rattle.wire.specs.Address.{is_group, is_reserved}
pub use Rattle.wire.specs.Ether.{has_tag}
pub use Rattle.wire.specs.First.{first}
pub use Rattle.wire.specs.Frame.{Frame, IsFrame, plain, tagged, frame_of, frame_behind_tag}
pub use Rattle.wire.specs.Tag.{begins_tag, vid_of}
