use denote.Shadow.{shadow}
use denote.Text.{Utf8}
use Rattle.std.proofs.Common.{◌≡◌, ◌≤◌, ◌-◌, ◌++◌, All, length}
use Rattle.part_record.specs.Digests.{IsDigest, digest_lines}
use Rattle.part_record.proofs.digest_lines.port_digests.Given as goal

abbrev pub invariant-loop-digests : goal.invariant-loop-digests
invariant-loop-digests l = record {
  few : length l.digests.items ≤ 255;
  digests : All IsDigest l.digests.items;
  read : l.text ≡ digest_lines 1 l.digests.items ++ l.rest;
  text : shadow (Utf8 l.rest);
}

abbrev pub decreases-loop-digests : goal.decreases-loop-digests
decreases-loop-digests l = 255 - length l.digests.items
