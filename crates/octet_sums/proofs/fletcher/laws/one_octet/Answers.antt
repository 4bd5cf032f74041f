use Rattle.octet_sums.proofs.Noticed.{noticed}
use Rattle.octet_sums.proofs.fletcher.laws.one_octet.Goals as goal

pub returns : goal.returns
returns c = noticed
