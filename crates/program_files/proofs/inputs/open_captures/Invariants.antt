use Rattle.std.proofs.Common.{◌≡◌, All, length, take}
use Rattle.pcap.specs.Source.{New, Stream}
use Rattle.program_files.specs.Opened.{AreOpened}
use Rattle.program_files.proofs.inputs.open_captures.Given as goal

abbrev pub invariant-loop-name : goal.invariant-loop-name
invariant-loop-name g l = record {
  count : length l.captures.items ≡ l.name-index;
  fresh : All (λ (capture : Stream). capture.standing ≡ New) l.captures.items;
  told : AreOpened g.R.File.Read.remaining g.R.Reader.Read.remaining (take l.name-index l.names) l.captures.items;
}
