use Rattle.story_laws.proofs.Tests.{refused-told, taken-told}
use Rattle.story_laws.proofs.laws.tests.Goals as goal

pub returns : goal.returns
returns c = record { refused = refused-told; taken = taken-told }
