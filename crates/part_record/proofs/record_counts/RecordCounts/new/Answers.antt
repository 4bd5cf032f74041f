use Rattle.std.proofs.Common.{refl, zero, suc}
use Rattle.timeline.specs.declared.source.Tap.TheVariants.{Port, Underlay}
use Rattle.part_record.proofs.Counts.{none_counted}
use Rattle.part_record.proofs.record_counts.RecordCounts.new.Goals as goal

pub returns : goal.returns
returns c Underlay = refl
returns c (Port zero) = refl
returns c (Port (suc k)) = none_counted 255 k
