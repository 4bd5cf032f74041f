use Rattle.std.proofs.Common.{◌+◌, arith, rules}
use Rattle.std.proofs.lemmas.List.Elements.{All-push}
use Rattle.part_record.proofs.Turns.{read_more}
use Rattle.part_record.specs.Digests.{IsDigest, port_line}
use Rattle.part_record.proofs.digest_lines.port_digests.Goals as goal

pub loop-digests-preserved : goal.loop-digests-preserved
loop-digests-preserved c =
    let before = c.loop-digests.invariant in
    record {
      few = search rules;
      digests = rw c.push.ensures.items (All-push IsDigest c.loop-digests.digests.items c.in-Some.found.0 before.digests c.in-Some.ensures.0);
      read = rw c.push.ensures.items
          (read_more port_line 1 c.args.text.now c.loop-digests.digests.items c.loop-digests.rest.now c.in-Some.found.0 c.in-Some.found.1.now (c.len.result + 1) (omega (arith, c.len.ensures.value)) before.read c.in-Some.ensures.1);
      text = search rules;
    }
