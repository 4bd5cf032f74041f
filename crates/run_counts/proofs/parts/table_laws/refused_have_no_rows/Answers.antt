use Rattle.run_counts.proofs.LineLemmas.{no_rows}
use Rattle.run_counts.proofs.parts.table_laws.refused_have_no_rows.Goals as goal

pub returns : goal.returns
returns c = no_rows
