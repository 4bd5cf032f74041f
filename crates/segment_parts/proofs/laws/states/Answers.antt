use Rattle.segment_parts.proofs.Merging.{counts-sum}
use Rattle.segment_parts.proofs.Tables.{lines-kept, lines-shown}
use Rattle.segment_parts.proofs.Telling.{settings-kept, tables-kept, counts-kept, moment-kept}
use Rattle.segment_parts.proofs.laws.states.Goals as goal

pub returns : goal.returns
returns c = record { settings = settings-kept; tables = tables-kept; counts = counts-kept; moment = moment-kept; lines = lines-kept; shown = lines-shown; sums = counts-sum }
