use Rattle.story_laws.proofs.Outputs.{outputs}
use Rattle.story_laws.proofs.objects.laws.outputs_read_back.Goals as goal

pub returns : goal.returns
returns c = outputs
