use Rattle.part_files.proofs.Texts.{reads-back}
use Rattle.part_files.proofs.Together.{holds-captures, opens-part}
use Rattle.part_files.proofs.laws.opened.Goals as goal

pub returns : goal.returns
returns c = record {
  captures = holds-captures;
  part = λ settings changes texts text number p result ran read octets counted opens. opens-part settings changes texts text p ran read (reads-back settings changes texts text octets counted) number result opens;
}
