use Rattle.story_laws.proofs.FrameRefusals.{frame-refusals}
use Rattle.story_laws.proofs.PacketRefusals.{packet-refusals}
use Rattle.story_laws.proofs.laws.refusals.Goals as goal

pub returns : goal.returns
returns c = record { frames = frame-refusals; packets = packet-refusals }
