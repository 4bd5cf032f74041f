use Rattle.report_counts.proofs.Reading.{replies}
use Rattle.report_counts.proofs.laws.replies_read_back.Goals as goal

pub returns : goal.returns
returns c = replies
