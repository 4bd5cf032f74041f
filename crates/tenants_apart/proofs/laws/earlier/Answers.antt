use Rattle.tenants_apart.specs.Own.{everything}
use Rattle.tenants_apart.proofs.Captures.{sources-follow, answers-follow}
use Rattle.tenants_apart.proofs.Earlier.{events-follow, replies-follow}
use Rattle.tenants_apart.proofs.laws.earlier.Goals as goal

pub returns : goal.returns
returns c = record {
  events = events-follow;
  replies = λ vid. replies-follow vid everything;
  sources = λ vid needs s x y l m o p is other same. sources-follow vid s x y l m o p is other same needs;
  answers = answers-follow;
}
