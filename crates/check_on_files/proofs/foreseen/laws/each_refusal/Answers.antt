use Rattle.check_on_files.proofs.Listing.{tells_each_refusal}
use Rattle.check_on_files.proofs.foreseen.laws.each_refusal.Goals as goal

pub returns : goal.returns
returns c = tells_each_refusal
