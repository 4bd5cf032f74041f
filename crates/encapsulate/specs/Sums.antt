-- What all packets with one frame share. It states no standard.
use Rattle.std.specs.Prelude.{◌≡◌, IfSome}
use Rattle.wire.specs.Frame.{Frame}
use Rattle.encapsulate.specs.declared.sums.FrameSums.{FrameSums}
use Rattle.encapsulate.specs.Flow.{source_port}
use Rattle.encapsulate.specs.Packet.{frame_sum}

-- the source port of the frame's flow and, where it was taken, the folded sum of the frame's octets
pub record AreSums (f : Frame) (s : FrameSums) : Type 0 where
  pub port : s.port ≡ source_port f
  pub sum : IfSome s.sum (λ n. n ≡ frame_sum f)
