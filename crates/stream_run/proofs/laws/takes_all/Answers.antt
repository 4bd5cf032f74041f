use Rattle.segment_set.specs.Segments.{All}
use Rattle.stream_run.proofs.Refusing.{over_all_taken, whole_run}
use Rattle.stream_run.proofs.laws.takes_all.Goals as goal

pub returns-clause-part : goal.returns-clause-part
returns-clause-part c = over_all_taken

pub returns-clause-whole : goal.returns-clause-whole
returns-clause-whole c s changes texts text old new result over =
    let all = over_all_taken All s changes texts text old new result over in
    (all, whole_run s changes texts text old new result all)
