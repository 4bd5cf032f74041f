use Rattle.story_laws.proofs.Outputs.{cuts}
use Rattle.story_laws.proofs.objects.laws.cuts_read_back.Goals as goal

pub returns : goal.returns
returns c = cuts
