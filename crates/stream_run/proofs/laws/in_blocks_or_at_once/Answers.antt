use Rattle.stream_run.proofs.Waiting.{leave_the_same}
use Rattle.stream_run.proofs.laws.in_blocks_or_at_once.Goals as goal

pub returns : goal.returns
returns c = leave_the_same
