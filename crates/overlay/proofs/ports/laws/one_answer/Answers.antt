use Rattle.overlay.proofs.Entering.{entering, reads, enters-from, enters-of}
use Rattle.overlay.proofs.Refusals.{refused-from, refused-of}
use Rattle.overlay.specs.Ingress.{frame_in, tag_vid}
use Rattle.overlay.proofs.ports.laws.one_answer.Goals as goal
use Rattle.std.proofs.Common.{sym}

pub returns-clause-reads : goal.returns-clause-reads
returns-clause-reads c b text =
    ((λ k. let r = reads b k.0 k.1 k.2 in (r.long, r.room)), λ long. (frame_in b, tag_vid b, entering b text long.0 long.1))

pub returns-clause-one_frame : goal.returns-clause-one_frame
returns-clause-one_frame c b f w k = let r = reads b f w k in (sym r.frame, sym r.vid)

pub returns-clause-enters : goal.returns-clause-enters
returns-clause-enters c s port b vid f text = (enters-from s port b vid f text, enters-of s port b vid f)

pub returns-clause-refused : goal.returns-clause-refused
returns-clause-refused c s port b refused = (refused-from s port b refused, refused-of s port b refused)
