use Rattle.run_counts.proofs.Runs.{run_counts, run_text}
use Rattle.run_counts.proofs.laws.runs.Goals as goal

pub returns : goal.returns
returns c = record {
  counts = λ S cs es begun ended rising is. run_counts S cs es begun ended rising is;
  text = λ S cs es begun ended cut rising is. run_text S cs es begun ended rising is cut;
}
