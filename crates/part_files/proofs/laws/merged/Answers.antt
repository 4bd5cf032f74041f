use Rattle.part_files.proofs.Texts.{reads-back}
use Rattle.part_files.proofs.Together.{files-merged}
use Rattle.part_merge.specs.Whole.{Adds}
use Rattle.part_merge.proofs.Blaming.{unless_blamed}
use Rattle.part_files.specs.Files.{opened_parts}
use Rattle.part_files.proofs.laws.merged.Goals as goal

pub returns : goal.returns
returns c = λ settings changes texts text parts opened_now old old_underlay written failures new new_underlay now failures_now result parted ran opened octets counted many merges.
    let answered = files-merged settings changes texts text old old_underlay written new new_underlay now result parts parted ran opened (reads-back settings changes texts text octets counted) many merges.puts in (
      answered.0,
      answered.1,
      unless_blamed (opened_parts parts) opened_now old old_underlay failures new new_underlay failures_now result (Adds answered.0 old old_underlay written new new_underlay now) answered.2 merges.reads merges.writes,
    )
