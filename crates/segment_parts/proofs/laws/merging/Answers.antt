use Rattle.segment_parts.proofs.Merging.{pieces-merged, part-rises, merged-rises, outputs-merged}
use Rattle.segment_parts.proofs.Vids.{vids-told}
use Rattle.segment_parts.proofs.laws.merging.Goals as goal

pub returns : goal.returns
returns c = record { pieces = pieces-merged; rising = part-rises; apart = merged-rises; outputs = outputs-merged; vids = vids-told }
