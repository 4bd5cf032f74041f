use Rattle.std.proofs.Common.{arith, refl, rules, ap, None, Ok, Err}
use Rattle.pcap.specs.Ahead.{left_of}
use Rattle.pcap.specs.Source.{Failed, Open}
use Rattle.pcap.proofs.Fetching.{reads_header}
use Rattle.pcap.proofs.stream.fetch.fetch_header.Goals as goal

pub returns-in-Ok-clause-header : goal.returns-in-Ok-clause-header
returns-in-Ok-clause-header g c =
    λ octets.
    let read = c.in_ok-pass.ensures in
    reads_header (left_of c.args.ahead.now) (left_of c.pass.new.self) c.pass.new.self.taken (Ok c.in-Ok.style) (Open c.in-Ok.style None) (omega (arith, read.bound)) read.taken (λ short. read.end (omega (arith, read.bound)))
    (search rules) refl read.quiet

pub returns-in-Err-clause-header : goal.returns-in-Err-clause-header
returns-in-Err-clause-header g c =
    λ octets.
    let read = c.in_ok-pass.ensures in
    reads_header (left_of c.args.ahead.now) (left_of c.pass.new.self) c.pass.new.self.taken (Err c.in-Err.fault) (Failed c.from.result) (omega (arith, read.bound)) read.taken (λ short. read.end (omega (arith, read.bound)))
    (search rules) (ap Failed c.from.ensures) read.quiet
