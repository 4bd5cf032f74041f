use Rattle.std.proofs.Common.{◌≡◌, ◌++◌, drop, map}
use Rattle.std.specs.List.{flat_map}
use Rattle.pcap.specs.Written.{written_record}
use Rattle.explanation.specs.Sample.{capture_of, record_of}
use Rattle.explanation.proofs.sample.built_in.capture.Given as goal

-- the capture so far, and the records of what is left, are the whole capture
abbrev pub invariant-loop-frame : goal.invariant-loop-frame
invariant-loop-frame l = l.capture.items ++ flat_map written_record (map record_of (drop l.frame-index l.frames)) ≡ capture_of l.frames
