use Rattle.story_laws.proofs.Outputs.{objects}
use Rattle.story_laws.proofs.objects.laws.objects_read_back.Goals as goal

pub returns : goal.returns
returns c = objects
