use Rattle.story_laws.proofs.Floods.{facts-told, few-told, left-told, outlets-told, ports-apart}
use Rattle.story_laws.proofs.laws.floods.Goals as goal

pub returns : goal.returns
returns c = record { outlets = outlets-told; told = facts-told; left = left-told; few = few-told; apart = ports-apart }
