use Rattle.std.proofs.Common.{◌≡◌, ◌≤◌, length}
use Rattle.std.specs.Io.KnownBytes.{Consumes}
use Rattle.pcap.specs.Counts.{GoesOnBy}
use Rattle.program_files.proofs.faults.text.read_text.Given as goal

-- so many reads brought the text, each some of it, and none failed
abbrev pub invariant-loop-made : goal.invariant-loop-made
invariant-loop-made g l = record {
  taken : Consumes (g.R.Input.remaining l.initial.input) (g.R.Input.remaining l.input) l.text.items;
  calls : GoesOnBy l._made (g.R.Input.calls l.initial.input) (g.R.Input.calls l.input);
  quiet : g.R.Input.failures l.input ≡ g.R.Input.failures l.initial.input;
  each : l._made ≤ length l.text.items;
}
