use Rattle.tenants_apart.proofs.Again.{tagged-again, untagged-again}
use Rattle.tenants_apart.proofs.Forwarded.{record-comes, frame-forwarded, packet-forwarded}
use Rattle.tenants_apart.proofs.Tagless.{frame-tagless, packet-tagless}
use Rattle.tenants_apart.proofs.laws.again.Goals as goal

pub returns : goal.returns
returns c = record {
  tagged = tagged-again;
  untagged = untagged-again;
  records = record-comes;
  frames = frame-forwarded;
  packets = packet-forwarded;
  frames_tagless = frame-tagless;
  packets_tagless = packet-tagless;
}
