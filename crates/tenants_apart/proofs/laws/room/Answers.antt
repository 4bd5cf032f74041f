use Rattle.tenants_apart.proofs.Room.{refused-calm, replies-calm}
use Rattle.tenants_apart.proofs.laws.room.Goals as goal

pub returns : goal.returns
returns c = record { felt = λ vid needs S T change. refused-calm vid needs S T change; alike = replies-calm }
