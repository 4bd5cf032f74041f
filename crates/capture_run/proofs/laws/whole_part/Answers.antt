use Rattle.capture_run.proofs.Among.{all_outputs}
use Rattle.capture_run.proofs.laws.whole_part.Goals as goal

pub returns : goal.returns
returns c = λ S changes ports timeline rising. all_outputs S changes ports timeline rising
