use Rattle.std.proofs.Common.{◌≡◌, ◌++◌, drop}
use Rattle.event_story.specs.Packet.{packet_fact, packet_tests}
use Rattle.event_story.specs.Tests.{refusal_of, told}
use Rattle.event_story.proofs.packet.put_packet_facts.Given as goal

-- with what the tests that are left saw put too, it is all
abbrev pub invariant-loop-test : goal.invariant-loop-test
invariant-loop-test l =
    let saw = told (packet_fact l.under l.original l.octets l.came) (refusal_of l.came) in
    l.facts.items ++ saw (drop l.test-index l.test-items) ≡ l.fn.facts.items ++ saw packet_tests
